use Rattle.std.proofs.Common.{◌≡◌, ℕ, ◌+◌, ◌<◌, length, slice_index}
use Rattle.cm_model.specs.Processor.{memory_bit}
use Rattle.cm_model.specs.Chip.{IsPlane, processor_at}
use Rattle.cm_model.specs.Array.{chip_at}
use Rattle.cm_element.proofs.run.Run.sixteen_bits.Given as goal

-- the planes so far
abbrev pub invariant-loop-i : goal.invariant-loop-i
invariant-loop-i l = record {
  count : length l.planes ≡ 16;
  each : (k : ℕ) → k < l.i
      → IsPlane (slice_index l.planes k) (λ p. memory_bit (processor_at (chip_at l.self l.chip) p) (l.at + k));
}
