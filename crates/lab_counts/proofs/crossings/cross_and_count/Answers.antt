use Rattle.std.proofs.Common.{◌≡◌, ℕ, ◌^◌, get_or, set, refl, ap, ◌∙◌, arith}
use Rattle.cm_model.specs.Wiring.{Routing}
use Rattle.cm_model.specs.Buffers.{buffers_after_dimension}
use Rattle.cm_router.specs.Routes.{routing_of}
use Rattle.cm_petit.proofs.Cycling.{crossed_by_one_way, crossed_more}
use Rattle.lab_counts.specs.Chips.{chips_to, chips_through}
use Rattle.lab_counts.specs.Crossings.{no_crossings, crossings_to, crossings_through}
use Rattle.lab_counts.proofs.CrossingLemmas.{stand_before, through_more, chips_more}
use Rattle.lab_counts.proofs.crossings.cross_and_count.Goals as goal

pub loop-dim-init : goal.loop-dim-init
unfolding crossings_through chips_through
loop-dim-init c = record {
  crossed = λ chips logs clock. refl;
  counted = λ m routes stand. refl;
  chips = λ m routes stand. refl;
  count = c.requires.count;
  within = c.requires.within;
}

pub loop-dim-preserved : goal.loop-dim-preserved
loop-dim-preserved c =
    let routing = routing_of c.args.routing.now in
    let n : ℕ = c.args.sizes.dims in
    let room : ℕ = c.args.sizes.room in
    let d : ℕ = c.loop-dim.dim in
    let was = c.loop-dim.invariant in
    let buffers = c.loop-dim.crossing.buffers in
    record {
      crossed = λ chips logs clock. crossed_more n room _ d (was.crossed chips logs clock)
          (c.cross.ensures.value
          ∙ (crossed_by_one_way routing n room d c.crossings_over-more.new.crossing.buffers
          ∙ ap (buffers_after_dimension routing n room d) c.crossings_over-more.ensures.same));
      counted = λ m routes stand. (λ i. set c.loop-dim.dims (c.from-d.ensures i) (c.added.ensures.value i))
          ∙ through_more n room m c.args.dims.now c.loop-dim.dims d
          (get_or c.loop-dim.dims c.from-d.result no_crossings) _ buffers (was.counted m routes stand)
          (ap (λ (k : ℕ). get_or c.loop-dim.dims k no_crossings) c.from-d.ensures)
          (c.crossings_over-more.ensures.value ∙ ap (λ (r : Routing). crossings_to r room d buffers (2 ^ n)) routes)
          (stand_before n room m routing c.args.crossing.now.buffers buffers d routes stand was.crossed);
      chips = λ m routes stand. chips_more n room m c.args.by_chip.now c.loop-dim.by_chip _ d buffers
          (was.chips m routes stand)
          (c.crossings_over-more.ensures.chips
          ∙ ap (λ (r : Routing). chips_to r room d buffers c.loop-dim.by_chip (2 ^ n)) routes)
          (stand_before n room m routing c.args.crossing.now.buffers buffers d routes stand was.crossed);
      count = c.cross.ensures.count;
      within = c.cross.ensures.within;
    }

pub returns-clause-value : goal.returns-clause-value
returns-clause-value c = λ chips logs clock.
    let all : c.loop-dim.dim ≡ c.args.sizes.dims = omega arith in
    rw all at (c.loop-dim.invariant.crossed chips logs clock)

pub returns-clause-crossings : goal.returns-clause-crossings
returns-clause-crossings c = λ m routes stand.
    let all : c.loop-dim.dim ≡ c.args.sizes.dims = omega arith in
    rw all at (c.loop-dim.invariant.counted m routes stand)

pub returns-clause-chips : goal.returns-clause-chips
returns-clause-chips c = λ m routes stand.
    let all : c.loop-dim.dim ≡ c.args.sizes.dims = omega arith in
    rw all at (c.loop-dim.invariant.chips m routes stand)
