use Rattle.std.proofs.Common.{ℕ, ◌/◌, ◌%◌, slice_index, ap, ◌∙◌, arith}
use Rattle.std.specs.Prelude.{bit_xor}
use Rattle.std.proofs.lemmas.Nat.{xor_lt}
use Rattle.cm_slots.specs.Moves.{slot_over}
use Rattle.cm_slots.proofs.Carrying.{four_more_lanes, lane_of_four, first_of_four}
use Rattle.cm_slots.proofs.across.put_fours_over.Goals as goal

pub bounds-row-from : goal.bounds-row-from
bounds-row-from g c =
    omega (arith, c.requires.low, xor_lt 4 c.loop-k.k (c.from.result % 64 / 4) (omega arith) (omega arith))

pub bounds-row-from-in-loop-k : goal.bounds-row-from-in-loop-k
bounds-row-from-in-loop-k g c = omega (
  arith,
  xor_lt 4 c.loop-k.k (c.from.result % 64 / 4) (omega arith) (omega arith),
  xor_lt 2 g.row.LOW 1 (omega (arith, c.requires.low)) (omega arith),
)

pub bounds-row-from-in-loop-k-2 : goal.bounds-row-from-in-loop-k-2
bounds-row-from-in-loop-k-2 g c = omega (
  arith,
  xor_lt 4 c.loop-k.k (c.from.result % 64 / 4) (omega arith) (omega arith),
  xor_lt 2 g.row.LOW 2 (omega (arith, c.requires.low)) (omega arith),
)

pub bounds-row-from-in-loop-k-3 : goal.bounds-row-from-in-loop-k-3
bounds-row-from-in-loop-k-3 g c = omega (
  arith,
  xor_lt 4 c.loop-k.k (c.from.result % 64 / 4) (omega arith) (omega arith),
  xor_lt 2 g.row.LOW 3 (omega (arith, c.requires.low)) (omega arith),
)

pub loop-k-preserved : goal.loop-k-preserved
loop-k-preserved g c =
    let dims = c.args.dims in
    let k = c.loop-k.k in
    let held : ℕ → ℕ = λ i. slot_over dims (slice_index c.args.row.now i) in
    four_more_lanes (λ i. held (bit_xor i (dims % 64))) c.args.lanes.now c.loop-k.lanes k c.over-first.result
    c.over-second.result c.over-third.result c.over-fourth.result (omega (arith, c.requires.wide, c.loop-k-test.true))
    ((rw c.from.ensures at c.over-first.ensures.value) ∙ ap held (first_of_four dims k g.row.LOW c.requires.low))
    ((rw c.from.ensures at c.over-second.ensures.value)
    ∙ ap held (lane_of_four dims k 1 g.row.LOW c.requires.low (omega arith)))
    ((rw c.from.ensures at c.over-third.ensures.value)
    ∙ ap held (lane_of_four dims k 2 g.row.LOW c.requires.low (omega arith)))
    ((rw c.from.ensures at c.over-fourth.ensures.value)
    ∙ ap held (lane_of_four dims k 3 g.row.LOW c.requires.low (omega arith)))
    c.loop-k.invariant
