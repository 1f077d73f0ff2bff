use Rattle.std.proofs.Common.{◌≡◌, ℕ, refl, sym, ap, ◌∙◌, if◌then◌else◌}
use Rattle.cm_model.specs.Machine.{Machine}
use Rattle.cm_model.specs.Buffers.{machine_after_injection}
use Rattle.cm_model.proofs.Cycles.{after_crossings}
use Rattle.cm_router.specs.Routes.{routing_of}
use Rattle.cm_petit.specs.Routers.{machine_from_logs, events_of}
use Rattle.cm_petit.proofs.Cycling.{injected_whole, delivered_whole, cycle_is}
use Rattle.lab_counts.specs.Chips.{chips_through}
use Rattle.lab_counts.specs.Crossings.{crossings_through}
use Rattle.lab_counts.proofs.counts.watched_cycle.Goals.{then-counts, else-counts}
use Rattle.lab_counts.proofs.counts.watched_cycle.Goals as goal

pub returns-clause-value : goal.returns-clause-value
returns-clause-value c =
    let routing = routing_of c.args.routing.now in
    let n : ℕ = c.args.sizes.dims in
    let room : ℕ = c.args.sizes.room in
    let clock : ℕ = c.args.clock.now in
    let are = c.requires.routers in
    let begun = c.inject.new in
    let crossed : machine_from_logs routing begun.run c.if-counts.crossing.buffers begun.logs clock
    ≡ after_crossings n room (machine_from_logs routing begun.run begun.crossing.buffers begun.logs clock) n =
    elim c.if-counts.branch [
      | then-counts w ↦ (λ i. machine_from_logs routing begun.run (w.crossing-is i).buffers begun.logs clock)
          ∙ w.cross_and_count.ensures.value begun.run (events_of begun.logs) clock
      | else-counts w ↦ (λ i. machine_from_logs routing begun.run (w.crossing-is i).buffers begun.logs clock)
          ∙ w.cross_all.ensures.value begun.run (events_of begun.logs) clock
    ] in
    cycle_is n room _ (injected_whole _ _ _ refl refl (rw are.chip_count at c.inject.ensures.value routing)) crossed
    (delivered_whole _ _ _ refl refl
    (rw (c.inject.ensures.routers.chip_count, are.chip_count) at c.deliver.ensures.value routing clock))

pub returns-clause-counts : goal.returns-clause-counts
returns-clause-counts c =
    let routing = routing_of c.args.routing.now in
    let n : ℕ = c.args.sizes.dims in
    let room : ℕ = c.args.sizes.room in
    let counts = c.args.counts.now in
    let machine : Machine =
    machine_from_logs routing c.args.run.now c.args.crossing.now.buffers c.args.logs.now c.args.clock.now in
    let dims = crossings_through n room machine counts.dims n in
    let begun : c.inject.new.crossing.buffers ≡ (machine_after_injection n room machine).buffers =
    ap (λ (m : Machine). m.buffers)
    (injected_whole n room _ refl refl (rw c.requires.routers.chip_count at c.inject.ensures.value routing)) in
    elim c.if-counts.branch [
      | then-counts w ↦ w.counts-is
          ∙ (λ i. record counts { dims = w.cross_and_count.ensures.crossings machine refl begun i })
          ∙ (λ i. if sym w.if-counts.true i then record counts { dims = dims } else counts)
      | else-counts w ↦ w.counts-is ∙ (λ i. if sym w.if-counts.false i then record counts { dims = dims } else counts)
    ]

pub returns-clause-chips : goal.returns-clause-chips
returns-clause-chips c =
    let routing = routing_of c.args.routing.now in
    let n : ℕ = c.args.sizes.dims in
    let room : ℕ = c.args.sizes.room in
    let chips = c.args.chips.now in
    let machine : Machine =
    machine_from_logs routing c.args.run.now c.args.crossing.now.buffers c.args.logs.now c.args.clock.now in
    let through = chips_through n room machine chips n in
    let begun : c.inject.new.crossing.buffers ≡ (machine_after_injection n room machine).buffers =
    ap (λ (m : Machine). m.buffers)
    (injected_whole n room _ refl refl (rw c.requires.routers.chip_count at c.inject.ensures.value routing)) in
    elim c.if-counts.branch [
      | then-counts w ↦ w.chips-is ∙ w.cross_and_count.ensures.chips machine refl begun
          ∙ (λ i. if sym w.if-counts.true i then through else chips)
      | else-counts w ↦ w.chips-is ∙ (λ i. if sym w.if-counts.false i then through else chips)
    ]
