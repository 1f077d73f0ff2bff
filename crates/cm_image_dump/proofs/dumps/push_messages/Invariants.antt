use Rattle.std.proofs.Common.{◌≡◌, ◌≤◌, ◌+◌, ◌*◌, ◌++◌, length, take}
use Rattle.std.specs.Vec.{vec_capacity}
use Rattle.std.specs.List.{flat_map}
use Rattle.cm_message.specs.Bytes.{message_text}
use Rattle.cm_image_dump.proofs.dumps.push_messages.Given as goal

abbrev pub invariant-loop-message : goal.invariant-loop-message
invariant-loop-message l = record {
  text : l.text.items ≡ l.initial.text.items ++ flat_map message_text (take l.message-index l.messages);
  capacity : vec_capacity l.initial.text ≤ vec_capacity l.text;
  grows : length l.text.items ≤ length l.initial.text.items + 18 * l.message-index;
}
