use Rattle.std.proofs.Common.{◌≡◌, ◌==◌, not, take}
use Rattle.std.specs.List.{list_any}
use Rattle.cm_element.proofs.run.flags.has_ones.Given as goal

-- whether one of the planes so far has a 1
abbrev pub invariant-loop-plane : goal.invariant-loop-plane
invariant-loop-plane l = not (l.seen == 0) ≡ list_any (λ plane. not (plane == 0)) (take l.plane-index l.planes)
