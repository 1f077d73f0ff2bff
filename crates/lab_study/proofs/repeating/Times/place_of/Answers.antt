use Rattle.std.proofs.Common.{ap, ◌∙◌, rules, tests}
use Rattle.std.proofs.lemmas.Iterator.{YieldsList-from_slice}
use Rattle.std.proofs.lemmas.Iterator.Search.{position_from_yields_List}
use Rattle.std.specs.Global.{Vec}
use Rattle.lab_study.specs.declared.holdings.Held.{Held}
use Rattle.lab_study.specs.Holdings.{same_holdings}
use Rattle.lab_study.specs.Repeats.{place_of}
use Rattle.lab_study.proofs.Repeated.{position-map}
use Rattle.lab_study.proofs.repeating.Times.place_of.Goals as goal

pub returns-clause-value : goal.returns-clause-value
returns-clause-value c =
    let now = c.args.now.now in
    let list = c.self.inside.list.items in
    position_from_yields_List (λ (time : Vec Held). same_holdings time.items now) _ _ _ c.position.ensures.ran
    (YieldsList-from_slice list cc) (λ x b q k. search (rules, tests))
    ∙ position-map (λ time. same_holdings time now) (λ (time : Vec Held). time.items) list
    ∙ ap (place_of now) c.self.view_is
