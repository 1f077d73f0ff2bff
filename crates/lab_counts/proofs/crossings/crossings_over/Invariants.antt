use Rattle.std.proofs.Common.{◌≡◌}
use Rattle.cm_router.specs.Routes.{routing_of}
use Rattle.lab_counts.specs.Chips.{chips_to}
use Rattle.lab_counts.specs.Crossings.{crossings_to}
use Rattle.lab_counts.proofs.crossings.crossings_over.Given as goal

-- those of so many chips
abbrev pub invariant-loop-chip : goal.invariant-loop-chip
invariant-loop-chip l = record {
  together : l.all ≡ crossings_to (routing_of l.routing) l.sizes.room l.dim l.fn.crossing.buffers l.chip;
  chips : l.by_chip ≡ chips_to (routing_of l.routing) l.sizes.room l.dim l.fn.crossing.buffers l.fn.by_chip l.chip;
}
