use Rattle.std.proofs.Common.{◌++◌, List, ℕ, sym, ap, ◌∙◌, arith}
use Rattle.std.proofs.lemmas.List.{append-nil}
use Rattle.cm_message.specs.Bytes.{message_text}
use Rattle.cm_image_dump.proofs.Dumping.{items_more}
use Rattle.cm_image_dump.proofs.dumps.push_messages.Goals as goal

pub loop-message-init : goal.loop-message-init
loop-message-init c = record {
  text = sym (append-nil c.args.text.now.items);
  capacity = omega arith;
  grows = omega arith;
}

pub loop-message-preserved : goal.loop-message-preserved
loop-message-preserved c = record {
  text = items_more message_text c.args.messages.now c.args.text.now.items _ _ c.loop-message.message-index
      c.message-item.result c.message-item.result (omega arith) c.message-item.is c.loop-message.invariant.text
      (c.in_ok-push.ensures.ok ∙ ap (λ (xs : List ℕ). c.loop-message.text.items ++ xs) c.bytes.ensures.value);
  capacity = omega (arith, c.loop-message.invariant.capacity, c.push.ensures.capacity);
  grows = omega (arith, c.loop-message.invariant.grows, c.in_ok-push.ensures.grows);
}
