use Rattle.std.proofs.Common.{◌≡◌, ◌≤◌, ◌+◌, ◌*◌, ◌++◌, length}
use Rattle.std.specs.Vec.{vec_capacity}
use Rattle.cm_image_dump.specs.Planes.{listings}
use Rattle.cm_image_dump.proofs.dense.push_some.Given as goal

abbrev pub invariant-loop-at : goal.invariant-loop-at
invariant-loop-at l = record {
  text : l.text.items ≡ l.initial.text.items ++ listings l.planes l.at;
  capacity : vec_capacity l.initial.text ≤ vec_capacity l.text;
  grows : length l.text.items ≤ length l.initial.text.items + 4 * l.at;
}
