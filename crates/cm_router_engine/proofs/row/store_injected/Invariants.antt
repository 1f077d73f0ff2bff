use Rattle.std.proofs.Common.{◌≡◌, ℕ, ◌+◌, ◌<◌, ◌≤◌, ◌||◌, ◌++◌, length, map, vec_len, vec_capacity}
use Rattle.cm_bits.specs.Bit.{bit}
use Rattle.cm_model.specs.declared.message.Event.TheVariants.{Injected}
use Rattle.cm_model.specs.Array.{nth_or_nil}
use Rattle.cm_model.specs.Letters.{messages_sent, is_among}
use Rattle.cm_router_engine.specs.Standing.{standing, HaveMessages, IsWritten}
use Rattle.cm_router_engine.proofs.row.store_injected.Given as goal

abbrev pub decreases-loop-proc : goal.decreases-loop-proc
decreases-loop-proc l = length l.senders

abbrev pub invariant-loop-proc : goal.invariant-loop-proc
invariant-loop-proc l = record {
  taken : (p : ℕ) → p < 16 → is_among p l.fn.senders ≡ (bit l.taken p || is_among p l.senders);
  items : l.fn.row.items ++ messages_sent l.dims l.clock l.here l.chip l.fn.senders
      ≡ l.row.items ++ messages_sent l.dims l.clock l.here l.chip l.senders;
  value : standing l.fn.row.items (nth_or_nil l.fn.slots l.at) ++ messages_sent l.dims l.clock l.here l.chip l.fn.senders
      ≡ standing l.row.items (nth_or_nil l.slots l.at) ++ messages_sent l.dims l.clock l.here l.chip l.senders;
  log : l.fn.log.items ++ map Injected (messages_sent l.dims l.clock l.here l.chip l.fn.senders)
      ≡ l.log.items ++ map Injected (messages_sent l.dims l.clock l.here l.chip l.senders);
  kept : HaveMessages (length l.row.items) (nth_or_nil l.slots l.at);
  others : IsWritten l.at l.fn.slots l.slots;
  chips : length l.slots ≡ length l.fn.slots;
  room : length (nth_or_nil l.slots l.at) + length l.senders ≤ 15;
  len : vec_len l.row + length l.senders ≡ vec_len l.fn.row + length l.fn.senders;
  capacity : vec_capacity l.fn.row ≤ vec_capacity l.row;
  log_len : vec_len l.log + length l.senders ≡ vec_len l.fn.log + length l.fn.senders;
  log_capacity : vec_capacity l.fn.log ≤ vec_capacity l.log;
}
