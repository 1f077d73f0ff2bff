use Rattle.std.proofs.Common.{ℕ, ◌<◌, ◌≤◌, inl, length, ⊎_elim, arith}
use Rattle.std.proofs.lemmas.Bool.{cases_lt}
use Rattle.cm_slots.specs.Runs.{tile_at, tile_across, HasCrossed}
use Rattle.cm_slots.proofs.Runs.{one_more_alone, one_more_pair, one_more_passed, tile-near, chips_crossed, whole_crossed, within_crossed}
use Rattle.cm_slots.proofs.passes.cross.Goals as goal
use Rattle.cm_slots.proofs.passes.cross.Goals.{then-t-across, else-t-across+then-t-across-2, else-t-across+else-t-across-2}

pub cross_pair-requires-clause-far : goal.cross_pair-requires-clause-far
cross_pair-requires-clause-far c = ⊎_elim
    (λ (near : c.args.dim < 6).
    absurd (omega (arith, tile-near c.args.dim near c.loop-t.t, c.tile_across-across.ensures.value, c.if-t-across-2.true)))
    (λ (far : 6 ≤ c.args.dim). far) (cases_lt c.args.dim 6)

pub loop-t-preserved : goal.loop-t-preserved
loop-t-preserved c =
    let t = c.loop-t.t in
    let old = c.args.tiles.now in
    let now = c.loop-t.tiles in
    let was = c.loop-t.invariant in
    let step = HasCrossed c.args.order c.args.sizes.room c.args.dim in
    let inside : t < length old = omega (arith, c.loop-t-test.true, was.long) in
    let across = c.tile_across-across.ensures.value in
    elim c.if-t-across.branch [
      | then-t-across w ↦ rw w.tiles-is
          (one_more_alone c.args.dim step old now t was w.cross_alone.new.self inside
          (omega (arith, w.if-t-across.true, across)) w.cross_alone.ensures.value)
      | else-t-across+then-t-across-2 w ↦ rw w.tiles-is
          (let crossed = w.cross_pair.ensures in
          one_more_pair c.args.dim step old now t was w.cross_pair.new.tiles w.cross_pair.auto.tiles
          (omega (arith, w.if-t-across-2.true, across))
          (rw across at crossed.low) (rw across at crossed.high) (rw across at crossed.others))
      | else-t-across+else-t-across-2 w ↦ rw w.tiles-is
          (one_more_passed c.args.dim step old now t was
          (omega (arith, w.if-t-across.false, w.if-t-across-2.false, across)))
    ]

pub returns : goal.returns
returns c =
    let old = c.args.tiles.now in
    let new = c.loop-t.tiles in
    let was = c.loop-t.invariant in
    let step = HasCrossed c.args.order c.args.sizes.room c.args.dim in
    let all : (t : ℕ) → t < length old → step (tile_at old t) (tile_at old (tile_across c.args.dim t)) (tile_at new t) =
    λ t h. was.done t h (inl (omega (arith, h, c.loop-t-test.false, was.long))) in
    record {
      value = chips_crossed c.args.order c.args.sizes.room c.args.dim old new was.long all;
      whole = whole_crossed c.args.order c.args.sizes.room c.args.dim old new was.long all;
      within = within_crossed c.args.order c.args.sizes.room c.args.dim old new was.long all;
    }
