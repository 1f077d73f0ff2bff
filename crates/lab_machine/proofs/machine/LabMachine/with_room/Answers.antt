use Rattle.std.proofs.Common.{◌≡◌, ◌≢◌, ◌≤◌, true, false, sym, ap, ◌∙◌, arith}
use Rattle.lab_machine.specs.Machines.{room_fault}
use Rattle.lab_machine.proofs.RoomFaults.{all_fit, some_crowded}
use Rattle.lab_machine.proofs.machine.LabMachine.with_room.Goals as goal

pub returns-then-not-is_within-clause-refused : goal.returns-then-not-is_within-clause-refused
returns-then-not-is_within-clause-refused g c = λ other.
    let some : c.args.room ≢ 0 = omega (arith, c.if-room-eq0.false) in
    let most : c.args.room ≤ 15 = omega (arith, c.if-from-gt-MOST_ROOM.false) in
    let no : c.is_within.result ≡ false = grind (arith, c.if-not-is_within.true) in
    sym (ap (room_fault c.args.room) c.in_ok-engine.ensures.value)
    ∙ some_crowded c.args.room c.in_ok-engine.engine.buffers c.is_within.result some most c.is_within.ensures.within no

pub returns-clause-fits : goal.returns-clause-fits
returns-clause-fits g c =
    let some : c.args.room ≢ 0 = omega (arith, c.if-room-eq0.false) in
    let most : c.args.room ≤ 15 = omega (arith, c.if-from-gt-MOST_ROOM.false) in
    let yes : c.is_within.result ≡ true = grind (arith, c.if-not-is_within.false) in
    sym (ap (room_fault c.args.room) c.in_ok-engine.ensures.value)
    ∙ all_fit c.args.room c.in_ok-engine.engine.buffers c.is_within.result some most c.is_within.ensures.within yes
