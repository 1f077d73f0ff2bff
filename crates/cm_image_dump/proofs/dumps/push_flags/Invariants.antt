use Rattle.std.proofs.Common.{◌≡◌, ◌≤◌, ◌+◌, ◌*◌, ◌++◌, length}
use Rattle.std.specs.Vec.{vec_capacity}
use Rattle.cm_image_dump.specs.Planes.{flags_text}
use Rattle.cm_image_dump.proofs.dumps.push_flags.Given as goal

abbrev pub invariant-loop-f : goal.invariant-loop-f
invariant-loop-f l = record {
  text : l.text.items ≡ l.initial.text.items ++ flags_text l.chip l.f;
  capacity : vec_capacity l.initial.text ≤ vec_capacity l.text;
  grows : length l.text.items ≤ length l.initial.text.items + 2 * l.f;
}
