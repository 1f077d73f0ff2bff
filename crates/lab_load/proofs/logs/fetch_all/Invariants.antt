use Rattle.std.proofs.Common.{◌≡◌, ℕ, ◌<◌, ◌≤◌, get_or, length, List}
use Rattle.cm_bits.specs.Bit.{bit}
use Rattle.cm_model.specs.Processor.{Processor, RECV}
use Rattle.cm_model.specs.Array.{chip_at}
use Rattle.cm_element.specs.Wide.{with_flag_plane}
use Rattle.lab_load.proofs.logs.fetch_all.Given as goal

-- so many chips are done
abbrev pub invariant-loop-chip : goal.invariant-loop-chip
invariant-loop-chip l = record {
  done : (k : ℕ) (d : List Processor) → k < l.chip
      → get_or l.run k d ≡ with_flag_plane (chip_at l.fn.run k) RECV (bit 0);
  rest : (k : ℕ) → l.chip ≤ k → chip_at l.run k ≡ chip_at l.fn.run k;
  count : length l.run ≡ length l.fn.run;
}
