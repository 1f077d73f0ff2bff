use Rattle.std.proofs.Common.{◌++◌, ◌∷◌, [], List, ap, sym, ◌∙◌}
use Rattle.cm_subcube.specs.declared.round.Round.{Round}
use Rattle.cm_subcube.specs.Rounds.{rounds_from}
use Rattle.cm_subcube.proofs.Rounding.{rounds_of-more}
use Rattle.cm_subcube.proofs.round.rounds.Goals as goal

pub loop-at-preserved : goal.loop-at-preserved
loop-at-preserved c =
    let i = c.loop-at.at in
    let one = c.index-acts-at.result in
    c.in_ok-add_rounds.ensures.ok
    ∙ ap (λ (rounds : List Round). rounds ++ rounds_from c.args.dims c.args.k i (one ∷ [])) c.loop-at.invariant
    ∙ sym (rounds_of-more c.args.dims c.args.k i c.args.acts.now one c.loop-at-test.true c.index-acts-at.is)
