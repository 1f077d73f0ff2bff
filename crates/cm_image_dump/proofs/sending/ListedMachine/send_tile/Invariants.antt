use Rattle.std.proofs.Common.{◌≡◌, ◌++◌, false, ◌≤◌, length}
use Rattle.std.specs.Vec.{vec_capacity}
use Rattle.cm_image_dump.specs.Planes.{chips_text}
use Rattle.cm_image_dump.specs.Sending.{GoesOut}
use Rattle.cm_image_dump.proofs.sending.ListedMachine.send_tile.Given as goal

abbrev pub invariant-loop-c : goal.invariant-loop-c
invariant-loop-c g l = record {
  gone : GoesOut (g.O.Sink.contents l.fn.sink) (g.O.Sink.contents l.sink)
      (l.fn.text.items ++ chips_text l.self.machine.now.machine l.first l.c) l.text.items;
  working : g.O.Sink.has_failed l.sink ≡ false;
  capacity : vec_capacity l.fn.text ≤ vec_capacity l.text;
  waits : length l.fn.text.items ≤ l.piece → length l.text.items ≤ l.piece;
}
