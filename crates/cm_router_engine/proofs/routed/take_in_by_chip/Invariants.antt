use Rattle.std.proofs.Common.{◌≡◌, ℕ, ◌^◌, ◌<◌, ◌≤◌, ◌++◌, length, get_or, None}
use Rattle.std.specs.Prelude.{bit_xor}
use Rattle.std.specs.Option.{option_to_list}
use Rattle.cm_model.specs.Array.{nth_or_nil}
use Rattle.cm_router_engine.proofs.routed.take_in_by_chip.Given as goal

abbrev pub invariant-loop-chip : goal.invariant-loop-chip
invariant-loop-chip l = record {
  long : length l.slots ≡ length l.fn.slots;
  done : (c : ℕ) → c < l.chip → nth_or_nil l.slots c
      ≡ nth_or_nil l.fn.slots c ++ option_to_list (get_or l.leavers (bit_xor c (2 ^ l.dim)) None);
  ahead : (c : ℕ) → l.chip ≤ c → nth_or_nil l.slots c ≡ nth_or_nil l.fn.slots c;
}
