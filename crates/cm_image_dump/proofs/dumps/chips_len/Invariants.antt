use Rattle.std.proofs.Common.{◌≡◌, ◌≤◌, ◌*◌, length}
use Rattle.cm_image_dump.specs.Planes.{chips_text}
use Rattle.cm_image_dump.proofs.dumps.chips_len.Given as goal

abbrev pub invariant-loop-c : goal.invariant-loop-c
invariant-loop-c g l = record {
  within : l.len ≤ l.c * 300000;
  is : l.len ≡ length (chips_text l.machine.machine 0 l.c);
}
