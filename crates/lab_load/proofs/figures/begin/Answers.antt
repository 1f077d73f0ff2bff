use Rattle.std.proofs.Common.{◌≡◌, ℕ, List, [], ap, ◌∙◌, refl}
use Rattle.cm_model.specs.declared.message.Message.{Message}
use Rattle.cm_model.specs.Each.{tabulate}
use Rattle.cm_router.specs.Routes.{routing_of}
use Rattle.lab_load.specs.Offers.{places}
use Rattle.lab_load.specs.Loaded.{Loaded, unloaded, loaded_for}
use Rattle.lab_load.specs.Kept.{loaded_of}
use Rattle.lab_counts.specs.declared.counts.Counts.{Counts}
use Rattle.lab_load.specs.Counted.{counts_for}
use Rattle.lab_load.proofs.ByChip.{chips_anew}
use Rattle.lab_load.proofs.Counting.{counted_anew}
use Rattle.lab_load.proofs.Beginning.{begins, nothing_told, passed, routers}
use Rattle.lab_load.proofs.figures.begin.Goals as goal

pub go_through-requires-clause-routers : goal.go_through-requires-clause-routers
go_through-requires-clause-routers c =
    routers c.args.load.now.dims c.args.chips c.in_ok-rows.rows c.in_ok-crossing.crossing.buffers c.args.logs.now
    c.requires.chips c.in_ok-rows.ensures.value
    (c.in_ok-crossing.ensures.value ∙ ap (λ (k : ℕ). tabulate {X = List Message} 0 k (λ x. [])) c.from.ensures)
    c.requires.logs c.args.room

pub returns : goal.returns
returns c =
    let begun =
    begins c.args.load.now.dims c.args.chips c.in_ok-rows.rows c.in_ok-crossing.crossing.buffers c.args.logs.now
    c.requires.chips c.in_ok-rows.ensures.value
    (c.in_ok-crossing.ensures.value ∙ ap (λ (k : ℕ). tabulate {X = List Message} 0 k (λ x. [])) c.from.ensures)
    c.requires.logs
    (routing_of c.args.routing.now) c.args.sources.now (places c.args.load.now.dims) c.new-latencies.result.items
    c.requires.sources refl c.new-latencies.ensures.items in
    let forgotten =
    nothing_told
    (loaded_of (routing_of c.args.routing.now) c.go_through.new.run c.go_through.new.crossing.buffers
    c.go_through.new.logs c.args.period.skip c.go_through.new.sources c.go_through.new.told)
    c.forget.new.self.deepest c.forget.new.self.taken c.forget.new.self.latencies.items
    c.forget.ensures.deepest c.forget.ensures.taken c.forget.ensures.latencies in
    let went : loaded_of (routing_of c.args.routing.now) c.go_through-2.new.run c.go_through-2.new.crossing.buffers
    c.go_through-2.new.logs c.args.period.cycles c.go_through-2.new.sources c.go_through-2.new.told
    ≡ loaded_for c.args.room c.args.load.now (routing_of c.args.routing.now) c.args.period.skip c.args.period.cycles =
    passed c.args.room c.args.load.now c.args.period.skip c.args.period.cycles
    (unloaded c.args.load.now.dims (routing_of c.args.routing.now)) _ _ _ _
    begun
    c.in_ok-go_through.ensures.ok
    forgotten
    c.in_ok-go_through-2.ensures.ok in
    let counted : c.go_through-2.new.told.counts
    ≡ counts_for c.args.period.counting c.args.room c.args.load.now (routing_of c.args.routing.now) c.args.period.skip
    c.args.period.cycles =
    counted_anew c.args.room c.args.load.now c.args.period.skip c.args.period.cycles
    (unloaded c.args.load.now.dims (routing_of c.args.routing.now)) _ _ _ _ _ _
    begun
    c.in_ok-go_through.ensures.ok
    forgotten
    c.forget.ensures.counts
    c.in_ok-go_through-2.ensures.counts in
    record {
      value = record {
        deepest = ap (λ (l : Loaded). l.deepest) went;
        taken = ap (λ (l : Loaded). l.taken) went;
        latencies = ap (λ (l : Loaded). l.latencies) went;
        counts_are = counted;
      };
      chips = chips_anew c.forget.new.self.counts.is_on c.args.period.counting c.args.room c.args.load.now
          c.args.period.skip c.args.period.cycles
          (unloaded c.args.load.now.dims (routing_of c.args.routing.now)) _ _ _ _ _ _
          begun
          c.in_ok-go_through.ensures.ok
          forgotten
          (ap (λ (x : Counts). x.is_on) c.forget.ensures.counts)
          c.forget.ensures.chips
          c.in_ok-go_through-2.ensures.chips;
    }
