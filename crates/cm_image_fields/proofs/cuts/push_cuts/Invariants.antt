use Rattle.std.proofs.Common.{◌≡◌, ◌≤◌, ◌+◌, ◌*◌, ◌++◌, length, take}
use Rattle.std.specs.Vec.{vec_capacity}
use Rattle.std.specs.List.{flat_map}
use Rattle.cm_image_format.specs.Cuts.{cut_text}
use Rattle.cm_image_fields.proofs.cuts.push_cuts.Given as goal

abbrev pub invariant-loop-edge : goal.invariant-loop-edge
invariant-loop-edge l = record {
  text : l.text.items ≡ l.initial.text.items ++ flat_map cut_text (take l.edge-index l.cuts);
  capacity : vec_capacity l.initial.text ≤ vec_capacity l.text;
  grows : length l.text.items ≤ length l.initial.text.items + 3 * l.edge-index;
}
