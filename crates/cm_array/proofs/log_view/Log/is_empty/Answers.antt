use Rattle.std.proofs.Common.{◌==◌, List, ap, length, rules, ◌∙◌}
use Rattle.cm_model.specs.declared.message.Event.{Event}
use Rattle.cm_array.proofs.Dealing.{none_where_untold}
use Rattle.cm_array.proofs.log_view.Log.is_empty.Goals as goal

pub returns-then-is_empty : goal.returns-then-is_empty
returns-then-is_empty c =
    let log = c.self.inside in
    record {
      value = none_where_untold log.chip log.dealt.now log.row.now c.tells_of.result (search rules) c.tells_of.ensures.value
          ∙ ap (λ (events : List Event). length events == 0) c.self.view_is;
    }
