use Rattle.std.proofs.Common.{◌≡◌, ◌++◌, take}
use Rattle.std.specs.List.{flat_map}
use Rattle.lab_figures.specs.Pictures.{dot_bytes}
use Rattle.lab_figures.proofs.picture.push_bytes.Given as goal

-- so many dots are written
abbrev pub invariant-loop-dot : goal.invariant-loop-dot
invariant-loop-dot l =
    l.text.items ≡ l.initial.text.items ++ flat_map (dot_bytes l.picture.greatest) (take l.dot-index l.picture.dots)
