use Rattle.std.proofs.Common.{◌-◌, ◌++◌, ◌∷◌, [], List, map, ap, sym, ◌∙◌, append_assoc, arith}
use Rattle.std.specs.List.{range_with_len}
use Rattle.cm_subcube.specs.declared.round.Round.{Round}
use Rattle.cm_subcube.specs.Rounds.{crossing_at}
use Rattle.cm_subcube.proofs.Rounding.{crossings-more}
use Rattle.cm_subcube.proofs.round.add_crossings.Goals as goal

pub loop-dim-preserved : goal.loop-dim-preserved
loop-dim-preserved c =
    let from = c.args.dims - c.args.k in
    let d = c.loop-dim.dim in
    let at = c.args.at in
    let done = map (crossing_at at) (range_with_len from (d - from)) in
    c.in_ok-add.ensures.ok
    ∙ ap (λ (rounds : List Round). rounds ++ crossing_at at d ∷ []) c.loop-dim.invariant
    ∙ append_assoc c.args.rounds.now.items done (crossing_at at d ∷ [])
    ∙ ap (λ (rounds : List Round). c.args.rounds.now.items ++ rounds)
    (sym (crossings-more from d at (omega (arith, c.loop-dim.auto.dim))))
