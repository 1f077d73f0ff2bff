use Rattle.std.proofs.Common.{◌≡◌, [], take}
use Rattle.cm_model.specs.Letters.{can_receive}
use Rattle.cm_model.specs.OneChip.{delivered, kept}
use Rattle.cm_plain.proofs.Sorting.{arrived_after}
use Rattle.cm_plain.proofs.buffer.PlainBuffer.sorted.Given as goal

abbrev pub invariant-loop-message : goal.invariant-loop-message
invariant-loop-message l = record {
  delivered : l.delivered.items ≡ delivered (can_receive l.chip) [] (take l.message-index l.message-items);
  kept : l.kept.items ≡ kept (can_receive l.chip) [] (take l.message-index l.message-items);
  arrived : l.arrived.items ≡ arrived_after [] (take l.message-index l.message-items);
}
