use Rattle.std.proofs.Common.{rules, ◌+◌, List, length, subst, sym, refl, arith}
use Rattle.cm_gates.proofs.Across.{AreCrossed, none_crossed, across_below, not_itself, one_more_crosses, one_more_did}
use Rattle.cm_gates.proofs.exchange.swap_across.Goals as goal
use Rattle.cm_gates.proofs.exchange.swap_across.Goals.{then-b-across, else-b-across}

pub loop-b-init : goal.loop-b-init
loop-b-init g c = none_crossed c.args.bit c.args.things.now

pub swap-requires-clause-b_in_bounds : goal.swap-requires-clause-b_in_bounds
swap-requires-clause-b_in_bounds g c =
    let b = c.loop-b.b in
    let there = across_below c.args.bit (length c.args.things.now) b c.requires.bit (search rules) in
    omega (arith, there, c.loop-b.invariant.len)

pub loop-b-preserved : goal.loop-b-preserved
loop-b-preserved g c =
    let old = c.args.things.now in let many = length old in let one = c.args.bit in let b = c.loop-b.b in
    elim c.if-b-across.branch [
      | then-b-across w ↦ subst (λ (ts : List g.row.T.Denot). AreCrossed one (b + 1) old ts) (sym w.things-is)
          (one_more_crosses one many b old c.loop-b.things w.swap.new.self c.requires.bit refl
          c.loop-b-test.true w.if-b-across.true
          c.loop-b.invariant w.swap.ensures.by_index w.swap.ensures.len)
      | else-b-across w ↦ subst (λ (ts : List g.row.T.Denot). AreCrossed one (b + 1) old ts) (sym w.things-is)
          (one_more_did one b old c.loop-b.things w.if-b-across.false
          (not_itself one many b c.requires.bit) c.loop-b.invariant)
    ]
