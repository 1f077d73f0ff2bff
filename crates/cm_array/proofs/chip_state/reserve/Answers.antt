use Rattle.std.proofs.Common.{◌≢◌, ◌<◌, length, ◌∙◌, arith}
use Rattle.std.proofs.lemmas.List.{length-set}
use Rattle.cm_array.proofs.Rooms.{events_of-set, room_made, room_kept, room_lacks, on_err}
use Rattle.cm_array.proofs.chip_state.reserve.Goals as goal

pub returns-in_err-make_room-clause-events : goal.returns-in_err-make_room-clause-events
returns-in_err-make_room-clause-events c =
    events_of-set c.loop-c.logs c.loop-c.c c.index-logs-c.result c.make_room.new.log c.make_room.ensures.items
    ∙ c.loop-c.invariant.events

pub returns-in_err-make_room-clause-err : goal.returns-in_err-make_room-clause-err
returns-in_err-make_room-clause-err c =
    let inside : c.loop-c.c < length c.loop-c.logs = omega arith in
    let some : c.args.more ≢ 0 = omega arith in
    on_err c.from_residual.result
    (room_lacks c.loop-c.logs c.args.logs.now c.args.more c.loop-c.c c.index-logs-c.result inside
    c.loop-c.invariant.count
    some c.in_err-make_room.ensures.full (c.loop-c.invariant.rest c.loop-c.c (omega arith)))

pub loop-c-preserved : goal.loop-c-preserved
loop-c-preserved c =
    let inside : c.loop-c.c < length c.loop-c.logs = omega arith in
    record {
      events = events_of-set c.loop-c.logs c.loop-c.c c.index-logs-c.result c.make_room.new.log
          c.make_room.ensures.items ∙ c.loop-c.invariant.events;
      room = room_made c.loop-c.logs c.args.more c.loop-c.c c.make_room.new.log inside c.in_ok-make_room.ensures.ok
          c.loop-c.invariant.room;
      rest = room_kept c.loop-c.logs c.args.logs.now c.loop-c.c c.make_room.new.log c.loop-c.invariant.rest;
      can_be = λ some. c.in_ok-make_room.ensures.can_be;
      count = length-set c.loop-c.logs c.loop-c.c c.make_room.new.log ∙ c.loop-c.invariant.count;
    }
