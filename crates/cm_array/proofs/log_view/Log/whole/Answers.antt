use Rattle.std.proofs.Common.{List, sym, ap, ◌∙◌, ◌++◌}
use Rattle.std.proofs.lemmas.List.{append-nil}
use Rattle.cm_model.specs.declared.message.Event.{Event}
use Rattle.cm_array.proofs.Dealing.{told_none}
use Rattle.cm_array.proofs.log_view.Log.whole.Goals as goal

pub returns-else-tells_of : goal.returns-else-tells_of
returns-else-tells_of c =
    let log = c.self.inside in
    let none = told_none log.chip log.row.now (sym c.tells_of.ensures.value ∙ c.if-tells_of.false) in
    record {
      value = sym (append-nil log.dealt.now) ∙ ap (λ (told : List Event). log.dealt.now ++ told) (sym none)
          ∙ c.self.view_is;
    }
