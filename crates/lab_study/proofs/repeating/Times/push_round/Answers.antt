use Rattle.std.proofs.Common.{◌≡◌, ◌++◌, List, OnOk, drop, map, subst, sym, ap, ◌∙◌}
use Rattle.std.proofs.lemmas.List.{drop-map, take_rest}
use Rattle.std.specs.Global.{Vec}
use Rattle.lab_study.specs.declared.holdings.Held.{Held}
use Rattle.lab_study.specs.Repeats.{round_line}
use Rattle.lab_study.proofs.repeating.Times.push_round.Goals as goal

pub returns : goal.returns
returns c =
    let text = c.args.text.now.items in
    let items = λ (time : Vec Held). time.items in
    let place = c.args.place in
    let round = ap (map items) (take_rest c.deref.result.now place)
    ∙ ap (λ list. map items (drop place list)) c.deref.ensures.value
    ∙ sym (drop-map items place c.self.inside.list.items) ∙ ap (drop place) c.self.view_is in
    record {
      ok = subst (λ (times : List (List Held)). OnOk c.push_line.result
          (c.push_line.new.text.items ≡ text ++ round_line c.args.clock times)) round c.push_line.ensures.ok;
    }
