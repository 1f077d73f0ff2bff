use Rattle.std.proofs.Common.{◌≡◌, ◌+◌, ◌/◌, ◌++◌, map, length}
use Rattle.std.specs.List.{range_with_len}
use Rattle.lab_figures.specs.Pictures.{dot_at}
use Rattle.lab_figures.proofs.looks.push_wider_row.Given as goal

-- so many dots of the row
abbrev pub invariant-loop-x : goal.invariant-loop-x
invariant-loop-x l = record {
  value : l.dots.items
      ≡ l.initial.dots.items ++ map (λ x. dot_at l.picture (l.y / l.k) (x / l.k)) (range_with_len 0 l.x);
  count : length l.dots.items ≡ length l.initial.dots.items + l.x;
}
