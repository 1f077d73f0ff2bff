use Rattle.std.proofs.Common.{◌≡◌, ◌-◌, ◌≤◌, ◌++◌, false, length}
use Rattle.std.specs.Vec.{vec_capacity}
use Rattle.cm_image_dump.specs.Planes.{chips_text}
use Rattle.cm_image_dump.specs.Sending.{GoesOut, IsNear}
use Rattle.cm_image_dump.proofs.sending.ListedMachine.send_chips.Given as goal

abbrev pub invariant-loop-first : goal.invariant-loop-first
invariant-loop-first g l = record {
  within : l.first ≤ l.count;
  near : IsNear l.near;
  gone : GoesOut (g.O.Sink.contents l.fn.sink) (g.O.Sink.contents l.sink)
      (l.fn.text.items ++ chips_text l.self.machine.now.machine 0 l.first) l.text.items;
  working : g.O.Sink.has_failed l.sink ≡ false;
  capacity : vec_capacity l.fn.text ≤ vec_capacity l.text;
  waits : length l.fn.text.items ≤ l.piece → length l.text.items ≤ l.piece;
}

abbrev pub decreases-loop-first : goal.decreases-loop-first
decreases-loop-first g l = l.count - l.first
