use Rattle.std.proofs.Common.{◌≡◌, ◌++◌, map}
use Rattle.std.specs.List.{range_with_len}
use Rattle.lab_figures.specs.Pictures.{packed_byte}
use Rattle.lab_figures.proofs.picture.push_packed.Given as goal

-- so many bytes are written
abbrev pub invariant-loop-b : goal.invariant-loop-b
invariant-loop-b l = l.text.items ≡ l.initial.text.items ++ map (packed_byte l.picture) (range_with_len 0 l.b)
