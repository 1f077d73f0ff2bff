use Rattle.std.proofs.Common.{◌/◌}
use Rattle.std.specs.Prelude.{bit_xor}
use Rattle.cm_slots.specs.Runs.{leavers_at}
use Rattle.cm_slots.specs.Moves.{HasMoved}
use Rattle.cm_slots.proofs.Runs.{AreDone}
use Rattle.cm_slots.proofs.moving.put_down.Given as goal

abbrev pub invariant-loop-t : goal.invariant-loop-t
invariant-loop-t l =
    AreDone (λ t old new. HasMoved l.dims (leavers_at l.firsts (bit_xor t (l.dims / 64))) new) l.initial.tiles l.tiles l.t
