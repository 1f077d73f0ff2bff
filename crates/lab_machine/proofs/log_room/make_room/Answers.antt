use Rattle.std.proofs.Common.{◌<◌, length, ◌∙◌, arith}
use Rattle.std.proofs.lemmas.List.{length-set}
use Rattle.cm_array.proofs.Rooms.{events_of-set, room_made}
use Rattle.lab_machine.proofs.log_room.make_room.Goals as goal

pub returns-in_err-make_room_in-clause-events : goal.returns-in_err-make_room_in-clause-events
returns-in_err-make_room_in-clause-events c =
    events_of-set c.loop-c.logs c.loop-c.c c.index-logs-c.result c.make_room_in.new.log c.make_room_in.ensures.items
    ∙ c.loop-c.invariant.events

pub loop-c-preserved : goal.loop-c-preserved
loop-c-preserved c =
    let inside : c.loop-c.c < length c.loop-c.logs = omega arith in
    record {
      events = events_of-set c.loop-c.logs c.loop-c.c c.index-logs-c.result c.make_room_in.new.log
          c.make_room_in.ensures.items ∙ c.loop-c.invariant.events;
      room = room_made c.loop-c.logs c.args.more c.loop-c.c c.make_room_in.new.log inside
          c.in_ok-make_room_in.ensures.ok c.loop-c.invariant.room;
      count = length-set c.loop-c.logs c.loop-c.c c.make_room_in.new.log ∙ c.loop-c.invariant.count;
    }
