use Rattle.std.proofs.Common.{◌≡◌, ◌+◌, drop, length}
use Rattle.std.specs.Prelude.{slice_get}
use Rattle.lab_route.specs.Whereabouts.{stands_from, stands_among}
use Rattle.lab_route.proofs.whereabouts.stand_at.Given as goal

-- those of the places that are left
abbrev pub invariant-loop-index : goal.invariant-loop-index
invariant-loop-index l = slice_get (stands_among l.tag l.chip l.messages) 0
    ≡ slice_get (stands_from l.tag l.chip (length l.messages) (l.index + 1) (drop l.index l.messages)) 0
