use Rattle.std.proofs.Common.{◌≡◌, ℕ, ◌+◌, ◌<◌, ◌≤◌, ◌||◌, ◌++◌, length, map, vec_len, vec_capacity}
use Rattle.cm_bits.specs.Bit.{bit}
use Rattle.cm_model.specs.declared.message.Event.TheVariants.{Injected}
use Rattle.cm_model.specs.Letters.{messages_sent, is_among}
use Rattle.cm_model.specs.OneChip.{taken_here, sent_here}
use Rattle.cm_router.proofs.node.Node.take_in.Given as goal

abbrev pub decreases-loop-proc : goal.decreases-loop-proc
decreases-loop-proc l = length l.senders

abbrev pub invariant-loop-proc : goal.invariant-loop-proc
invariant-loop-proc l = record {
  taken : (p : ℕ) → p < 16 → is_among p (taken_here l.fn.self.room l.fn.self.messages l.chip)
      ≡ (bit l.taken p || is_among p l.senders);
  messages : l.fn.self.messages ++ sent_here l.dims l.fn.self.room l.clock l.here l.fn.self.messages l.chip
      ≡ l.self-inside.messages.items ++ messages_sent l.dims l.clock l.here l.chip l.senders;
  log : l.fn.log.items
      ++ map Injected (sent_here l.dims l.fn.self.room l.clock l.here l.fn.self.messages l.chip)
      ≡ l.log.items ++ map Injected (messages_sent l.dims l.clock l.here l.chip l.senders);
  numbers : record {
    room : l.self-inside.room ≡ l.fn.self.room;
    log_room : vec_len l.log + length l.senders ≤ vec_capacity l.log;
    log_len : vec_len l.log + length l.senders ≤ vec_len l.fn.log + 4;
    capacity : vec_capacity l.fn.log ≤ vec_capacity l.log;
    within : length l.self-inside.messages.items + length l.senders ≤ l.self-inside.room;
    some : 0 < l.self-inside.room;
    most : l.self-inside.room ≤ 15;
  };
}
