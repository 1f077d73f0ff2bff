use Rattle.std.proofs.Common.{◌≡◌, ℕ, suc, ◌+◌, ◌-◌, ◌≤◌, ap, ◌∙◌, subst, arith}
use Rattle.cm_router.specs.Routes.{routing_of}
use Rattle.lab_load.specs.declared.offers.Load.{Load}
use Rattle.lab_load.specs.Loaded.{Loaded, after_one, after_cycles}
use Rattle.lab_load.specs.Kept.{loaded_of}
use Rattle.lab_counts.specs.declared.counts.Counts.{Counts}
use Rattle.lab_load.specs.Counted.{counts_after_cycles, chips_after_cycles}
use Rattle.lab_load.proofs.ByChip.{is_on-after_cycles, no_chips, one_more_by_chip}
use Rattle.lab_load.proofs.Counting.{none_counted, one_more_counted}
use Rattle.lab_load.proofs.cycles.go_through.Goals as goal

none_yet : (cap : ℕ) (load : Load) (first : Loaded) (t : ℕ) → first ≡ after_cycles cap load first (t - t)
unfolding after_cycles
none_yet cap load first t =
    let none : 0 ≡ t - t = omega arith in ap (λ (k : ℕ). after_cycles cap load first k) none

one_more : (cap : ℕ) (load : Load) (first now next : Loaded) (from t : ℕ) → from ≤ t
    → now ≡ after_cycles cap load first (t - from)
    → next ≡ after_one cap load now → next ≡ after_cycles cap load first (t + 1 - from)
unfolding after_cycles
one_more cap load first now next from t order before is =
    let count : suc (t - from) ≡ t + 1 - from = omega (arith, order) in
    is ∙ (ap (after_one cap load) before ∙ ap (λ (k : ℕ). after_cycles cap load first k) count)

pub loop-t-init : goal.loop-t-init
loop-t-init c = record {
  value = none_yet c.args.sizes.room c.args.load.now _ c.args.from;
  counts = none_counted c.args.sizes.room c.args.load.now _ c.args.told.now.counts c.args.from;
  chips = no_chips c.args.told.now.counts.is_on c.args.sizes.room c.args.load.now _ c.args.told.now.chips.items c.args.from;
  routers = c.requires.routers;
  taken = omega (arith, c.requires.taken);
}

pub loop-t-preserved : goal.loop-t-preserved
loop-t-preserved c = record {
  value = one_more c.args.sizes.room c.args.load.now _ _ _ c.args.from c.loop-t.t (omega arith)
      c.loop-t.invariant.value c.in_ok-go_on.ensures.ok;
  counts = one_more_counted c.args.sizes.room c.args.load.now _ _ c.args.told.now.counts _ _ c.args.from c.loop-t.t
      (omega arith) c.loop-t.invariant.value c.loop-t.invariant.counts c.in_ok-go_on.ensures.counts;
  chips = one_more_by_chip c.args.told.now.counts.is_on c.loop-t.told.counts.is_on c.args.sizes.room c.args.load.now _ _
      c.args.told.now.chips.items _ _ c.args.from c.loop-t.t (omega arith)
      (ap (λ (x : Counts). x.is_on) c.loop-t.invariant.counts
      ∙ is_on-after_cycles c.args.sizes.room c.args.load.now
      (loaded_of (routing_of c.args.routing.now) c.args.run.now c.args.crossing.now.buffers c.args.logs.now c.args.from
      c.args.sources.now c.args.told.now)
      c.args.told.now.counts (c.loop-t.t - c.args.from))
      c.loop-t.invariant.value c.loop-t.invariant.chips c.in_ok-go_on.ensures.chips;
  routers = c.in_ok-go_on.ensures.routers;
  taken = c.in_ok-go_on.ensures.taken;
}

all_done : (cap : ℕ) (load : Load) (first : Loaded) (now : ℕ → Loaded) (from t to : ℕ) → t ≡ to
    → now t ≡ after_cycles cap load first (t - from) → now to ≡ after_cycles cap load first (to - from)
all_done cap load first now from t to all is =
    subst (λ (k : ℕ). now k ≡ after_cycles cap load first (k - from)) all is

pub returns-clause-ok : goal.returns-clause-ok
returns-clause-ok c =
    let all : c.loop-t.t ≡ c.args.to = omega arith in
    all_done c.args.sizes.room c.args.load.now
    (loaded_of (routing_of c.args.routing.now) c.args.run.now c.args.crossing.now.buffers c.args.logs.now c.args.from
    c.args.sources.now c.args.told.now)
    (λ (k : ℕ). loaded_of (routing_of c.args.routing.now) c.loop-t.run c.loop-t.crossing.buffers c.loop-t.logs k
    c.loop-t.sources c.loop-t.told)
    c.args.from c.loop-t.t c.args.to all c.loop-t.invariant.value

pub returns-clause-counts : goal.returns-clause-counts
returns-clause-counts c =
    let all : c.loop-t.t ≡ c.args.to = omega arith in
    let first = loaded_of (routing_of c.args.routing.now) c.args.run.now c.args.crossing.now.buffers c.args.logs.now
    c.args.from c.args.sources.now c.args.told.now in
    c.loop-t.invariant.counts
    ∙ ap (λ (k : ℕ). counts_after_cycles c.args.sizes.room c.args.load.now first c.args.told.now.counts (k - c.args.from)) all

pub returns-clause-chips : goal.returns-clause-chips
returns-clause-chips c =
    let all : c.loop-t.t ≡ c.args.to = omega arith in
    let first = loaded_of (routing_of c.args.routing.now) c.args.run.now c.args.crossing.now.buffers c.args.logs.now
    c.args.from c.args.sources.now c.args.told.now in
    c.loop-t.invariant.chips
    ∙ ap (λ (k : ℕ). chips_after_cycles c.args.told.now.counts.is_on c.args.sizes.room c.args.load.now first
    c.args.told.now.chips.items (k - c.args.from)) all
