use Rattle.std.proofs.Common.{◌≡◌, ◌*◌, length}
use Rattle.std.specs.List.{flat_map, range_with_len}
use Rattle.lab_figures.specs.Looks.{wider_row}
use Rattle.lab_figures.proofs.looks.repeated.Given as goal

-- so many rows
abbrev pub invariant-loop-y : goal.invariant-loop-y
invariant-loop-y l = record {
  value : l.dots.items ≡ flat_map (wider_row l.k l.picture) (range_with_len 0 l.y);
  count : length l.dots.items ≡ l.y * (l.k * l.picture.width);
}
