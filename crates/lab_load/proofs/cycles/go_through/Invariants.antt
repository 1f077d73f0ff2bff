use Rattle.std.proofs.Common.{◌≡◌, ◌-◌, ◌*◌, ◌≤◌, ◌^◌}
use Rattle.cm_router.specs.Routes.{routing_of}
use Rattle.cm_petit.specs.Routers.{AreRouters}
use Rattle.lab_load.specs.Counted.{counts_after_cycles, chips_after_cycles}
use Rattle.lab_load.specs.Loaded.{after_cycles}
use Rattle.lab_load.specs.Kept.{loaded_of}
use Rattle.lab_load.proofs.cycles.go_through.Given as goal

-- so many petit cycles
abbrev pub invariant-loop-t : goal.invariant-loop-t
invariant-loop-t l = record {
  value : loaded_of (routing_of l.routing) l.run l.crossing.buffers l.logs l.t l.sources l.told
      ≡ after_cycles l.sizes.room l.load
      (loaded_of (routing_of l.routing) l.fn.run l.fn.crossing.buffers l.fn.logs l.from l.fn.sources l.fn.told)
      (l.t - l.from);
  counts : l.told.counts ≡ counts_after_cycles l.sizes.room l.load
      (loaded_of (routing_of l.routing) l.fn.run l.fn.crossing.buffers l.fn.logs l.from l.fn.sources l.fn.told)
      l.fn.told.counts (l.t - l.from);
  chips : l.told.chips.items ≡ chips_after_cycles l.fn.told.counts.is_on l.sizes.room l.load
      (loaded_of (routing_of l.routing) l.fn.run l.fn.crossing.buffers l.fn.logs l.from l.fn.sources l.fn.told)
      l.fn.told.chips.items (l.t - l.from);
  routers : AreRouters (2 ^ l.sizes.dims) l.sizes.room l.run l.crossing.buffers l.logs;
  taken : l.told.taken ≤ l.t * 2 ^ 76;
}
