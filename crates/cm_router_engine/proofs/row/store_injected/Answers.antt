use Rattle.std.proofs.Common.{◌∙◌, length, length-set, refl, ap, arith, append_assoc}
use Rattle.std.proofs.Math.Bool.{or_assoc}
use Rattle.cm_router_engine.proofs.Keeping.{written_again}
use Rattle.cm_router_engine.proofs.row.store_injected.Goals as goal

pub loop-proc-preserved : goal.loop-proc-preserved
loop-proc-preserved c =
    let was = c.loop-proc.invariant in
    let next = c.in-Some.ensures.some in
    let stood = c.stand.ensures in
    let told = c.tell_injected.ensures in
    let sent = c.message_sent-sent.ensures.value in
    record {
      taken = λ p h. rw (c.with_one-taken.ensures.value p h, or_assoc) (rw next at (was.taken p h));
      items = rw (stood.items, append_assoc, sent) (rw next at was.items);
      value = rw (stood.value, append_assoc, sent) (rw next at was.value);
      log = rw (told.items, append_assoc, sent) (rw next at was.log);
      kept = stood.kept;
      others = written_again c.args.at c.args.slots.now _ _ _ stood.others refl was.others;
      chips = ap length stood.others ∙ length-set _ _ _ ∙ was.chips;
      room = omega (arith, was.room, stood.long, ap length next);
      len = omega (arith, was.len, stood.len, ap length next);
      capacity = omega (arith, was.capacity, stood.capacity);
      log_len = omega (arith, was.log_len, told.len, ap length next);
      log_capacity = omega (arith, was.log_capacity, told.capacity);
    }
