use Rattle.std.proofs.Common.{◌≡◌, ℕ, ◌≤◌, ◌^◌, List, length}
use Rattle.std.specs.List.{All}
use Rattle.cm_model.specs.declared.message.Event.{Event}
use Rattle.cm_model.specs.Array.{Chips}
use Rattle.cm_model.specs.Machine.{Machine}
use Rattle.cm_model.specs.Buffers.{machine_after_injection}
use Rattle.cm_model.proofs.Cycles.{after_crossings}
use Rattle.cm_router.specs.Routes.{routing_of}
use Rattle.cm_petit.specs.Routers.{machine_from}
use Rattle.lab_counts.specs.Chips.{chips_through}
use Rattle.lab_counts.specs.Crossings.{crossings_through}
use Rattle.lab_counts.proofs.crossings.cross_and_count.Given as goal

-- so many dimensions
abbrev pub invariant-loop-dim : goal.invariant-loop-dim
invariant-loop-dim l = record {
  crossed : (chips : Chips) (logs : List (List Event)) (clock : ℕ)
      → machine_from (routing_of l.routing) chips l.crossing.buffers logs clock
      ≡ after_crossings l.sizes.dims l.sizes.room
      (machine_from (routing_of l.routing) chips l.fn.crossing.buffers logs clock) l.dim;
  counted : (m : Machine) → routing_of l.routing ≡ m.routing
      → l.fn.crossing.buffers ≡ (machine_after_injection l.sizes.dims l.sizes.room m).buffers
      → l.dims ≡ crossings_through l.sizes.dims l.sizes.room m l.fn.dims l.dim;
  chips : (m : Machine) → routing_of l.routing ≡ m.routing
      → l.fn.crossing.buffers ≡ (machine_after_injection l.sizes.dims l.sizes.room m).buffers
      → l.by_chip ≡ chips_through l.sizes.dims l.sizes.room m l.fn.by_chip l.dim;
  count : length l.crossing.buffers ≡ 2 ^ l.sizes.dims;
  within : All (λ ms. length ms ≤ l.sizes.room) l.crossing.buffers;
}
