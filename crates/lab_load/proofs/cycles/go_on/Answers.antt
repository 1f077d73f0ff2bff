use Rattle.std.proofs.Common.{◌≡◌, ℕ, ◌*◌, ◌%◌, ◌^◌, ◌≤◌, List, [], ◌++◌, length, sym, ap, ◌∙◌, arith, lit<}
use Rattle.std.specs.List.{count_by, flat_map}
use Rattle.std.proofs.Math.Nat.{pow-le-pow_right}
use Rattle.std.proofs.lemmas.List.{with_items_is}
use Rattle.std.proofs.lemmas.Nat.{one_shl}
use Rattle.cm_bits.specs.Bit.{bit}
use Rattle.cm_model.specs.declared.message.Event.{Event}
use Rattle.cm_model.specs.Each.{tabulate}
use Rattle.cm_model.specs.Processor.{RECV}
use Rattle.cm_model.specs.Array.{chip_at}
use Rattle.cm_model.proofs.Each.{length-tabulate}
use Rattle.cm_element.specs.Wide.{with_flag_plane}
use Rattle.cm_router.specs.Logs.{Log}
use Rattle.cm_router.specs.Routes.{routing_of}
use Rattle.lab_load.specs.Telling.{is_injection_event, latency_logged}
use Rattle.lab_load.proofs.Adding.{flat_map-map, sum_by-map}
use Rattle.lab_load.proofs.ByChip.{chips_once}
use Rattle.lab_load.proofs.Counting.{counted_once}
use Rattle.lab_load.proofs.Cycling.{asked, one_cycle}
use Rattle.lab_load.specs.Kept.{loaded_of}
use Rattle.lab_load.proofs.cycles.go_on.Goals as goal

chip_count : (n : ℕ) → n ≤ 12 → 1 * 2 ^ n % 65536 ≡ 2 ^ n
chip_count n h = one_shl n 16 (omega (arith, h))

pub taken_in-requires : goal.taken_in-requires
taken_in-requires c =
    let most : 2 ^ c.args.sizes.dims ≤ 2 ^ 12 = pow-le-pow_right (lit< tt) c.args.sizes.bounds.dimension in
    record { few = omega (arith, most, c.watched_cycle.ensures.routers.log_count) }

pub returns-clause-ok : goal.returns-clause-ok
returns-clause-ok c =
    let logs : List Log = c.watched_cycle.new.logs in
    one_cycle c.args.sizes.dims c.args.sizes.room c.args.load.now (routing_of c.args.routing.now) c.args.run.now
    c.ask_all.new.run c.watched_cycle.new.run c.fetch_all.new.run c.args.crossing.now.buffers c.watched_cycle.new.crossing.buffers
    c.args.logs.now c.empty_logs.new.logs logs c.args.t c.from-clock.result c.watched_cycle.new.clock c.args.sources.now
    c.ask_all.new.sources c.args.told.now.deepest c.ask_all.new.deepest c.args.told.now.taken c.taken_in.result
    c.args.told.now.latencies.items c.push_latencies.new.latencies.items
    (sym c.requires.load)
    c.ask_all.ensures.value
    (c.in_ok-empty_logs.ensures.empty
    ∙ ap (λ (k : ℕ). tabulate {X = List Event} 0 k (λ x. [])) c.requires.routers.log_count)
    c.watched_cycle.ensures.value c.from-clock.ensures c.watched_cycle.ensures.counter
    (c.taken_in.ensures.value ∙ sym (sum_by-map (count_by is_injection_event) (λ (log : Log). log.items) logs))
    (c.in_ok-push_latencies.ensures.ok
    ∙ ap (λ (xs : List ℕ). c.args.told.now.latencies.items ++ xs)
    (sym (flat_map-map (flat_map (latency_logged c.args.t)) (λ (log : Log). log.items) logs)))
    (c.fetch_all.ensures.value
    ∙ ap (λ (k : ℕ). tabulate 0 k (λ x. with_flag_plane (chip_at c.watched_cycle.new.run x) RECV (bit 0)))
    (chip_count c.args.sizes.dims c.args.sizes.bounds.dimension))

pub returns-clause-routers : goal.returns-clause-routers
returns-clause-routers c = record {
  chip_count = ap length c.fetch_all.ensures.value
      ∙ (length-tabulate 0 (1 * 2 ^ c.args.sizes.dims % 65536)
      (λ x. with_flag_plane (chip_at c.watched_cycle.new.run x) RECV (bit 0))
      ∙ chip_count c.args.sizes.dims c.args.sizes.bounds.dimension);
  buffer_count = c.watched_cycle.ensures.routers.buffer_count;
  log_count = c.watched_cycle.ensures.routers.log_count;
  within = c.watched_cycle.ensures.routers.within;
}

pub returns-clause-counts : goal.returns-clause-counts
returns-clause-counts c =
    let logs : List Log = c.watched_cycle.new.logs in
    counted_once c.args.sizes.dims c.args.sizes.room c.args.load.now
    (loaded_of (routing_of c.args.routing.now) c.args.run.now c.args.crossing.now.buffers c.args.logs.now c.args.t
    c.args.sources.now c.args.told.now)
    _ _ c.args.told.now.counts c.watched_cycle.new.counts c.count_quiet.new.counts
    (sym c.requires.load)
    (asked c.args.sizes.dims c.args.sizes.room c.args.load.now (routing_of c.args.routing.now) c.args.run.now
    c.ask_all.new.run c.watched_cycle.new.run c.fetch_all.new.run c.args.crossing.now.buffers
    c.watched_cycle.new.crossing.buffers c.args.logs.now c.empty_logs.new.logs logs c.args.t c.from-clock.result
    c.watched_cycle.new.clock c.args.sources.now c.ask_all.new.sources c.args.told.now.deepest c.ask_all.new.deepest
    c.args.told.now.taken c.taken_in.result c.args.told.now.latencies.items c.push_latencies.new.latencies.items
    (sym c.requires.load) c.ask_all.ensures.value
    (c.in_ok-empty_logs.ensures.empty
    ∙ ap (λ (k : ℕ). tabulate {X = List Event} 0 k (λ x. [])) c.requires.routers.log_count)
    c.from-clock.ensures)
    (returns-clause-ok c)
    c.watched_cycle.ensures.counts c.count_quiet.ensures.value

pub returns-clause-chips : goal.returns-clause-chips
returns-clause-chips c =
    let logs : List Log = c.watched_cycle.new.logs in
    with_items_is c.args.told.now.chips c.watched_cycle.new.chips
    (c.watched_cycle.auto.chips ∙ (ap length c.deref_mut.ensures.value ∙ sym c.args.told.now.chips.ok.0))
    ∙ chips_once c.args.sizes.dims c.args.sizes.room c.args.load.now
    (loaded_of (routing_of c.args.routing.now) c.args.run.now c.args.crossing.now.buffers c.args.logs.now c.args.t
    c.args.sources.now c.args.told.now)
    _ c.args.told.now.counts.is_on c.args.told.now.chips.items c.deref_mut.result.now c.watched_cycle.new.chips
    (sym c.requires.load)
    (asked c.args.sizes.dims c.args.sizes.room c.args.load.now (routing_of c.args.routing.now) c.args.run.now
    c.ask_all.new.run c.watched_cycle.new.run c.fetch_all.new.run c.args.crossing.now.buffers
    c.watched_cycle.new.crossing.buffers c.args.logs.now c.empty_logs.new.logs logs c.args.t c.from-clock.result
    c.watched_cycle.new.clock c.args.sources.now c.ask_all.new.sources c.args.told.now.deepest c.ask_all.new.deepest
    c.args.told.now.taken c.taken_in.result c.args.told.now.latencies.items c.push_latencies.new.latencies.items
    (sym c.requires.load) c.ask_all.ensures.value
    (c.in_ok-empty_logs.ensures.empty
    ∙ ap (λ (k : ℕ). tabulate {X = List Event} 0 k (λ x. [])) c.requires.routers.log_count)
    c.from-clock.ensures)
    c.deref_mut.ensures.value c.watched_cycle.ensures.chips
