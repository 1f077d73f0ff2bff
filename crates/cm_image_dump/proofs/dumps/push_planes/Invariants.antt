use Rattle.std.proofs.Common.{◌≡◌, ◌≤◌, ◌+◌, ◌*◌, ◌++◌, length, take}
use Rattle.std.specs.Vec.{vec_capacity}
use Rattle.std.specs.List.{flat_map}
use Rattle.cm_image_dump.specs.Planes.{listing_at}
use Rattle.cm_image_dump.proofs.dumps.push_planes.Given as goal

abbrev pub invariant-loop-at : goal.invariant-loop-at
invariant-loop-at l = record {
  text : l.text.items ≡ l.initial.text.items ++ flat_map (listing_at l.chip) (take l.at-index l.addresses);
  capacity : vec_capacity l.initial.text ≤ vec_capacity l.text;
  grows : length l.text.items ≤ length l.initial.text.items + 4 * l.at-index;
}
