use Rattle.std.proofs.Common.{rules}
use Rattle.cm_turns.specs.Lanes.{Run, own, givers}
use Rattle.cm_resident.specs.Teams.{AreAtPlace}
use Rattle.cm_resident.proofs.Numbered.{one_more}
use Rattle.cm_resident.proofs.lanes.open_all.Goals as goal

pub loop-place-preserved : goal.loop-place-preserved
loop-place-preserved g c =
    let run : Run =
    record {
      n = g.S.Sizes.n;
      k = c.args.k;
      room = g.S.Sizes.cap;
      machine = c.args.machine.now.machine;
      acts = c.args.acts.now;
    } in
    let inv = c.loop-place.invariant in record {
      first_room = search rules;
      second_room = search rules;
      sends_are = one_more (AreAtPlace run own 0) c.loop-place.place c.loop-place.sends.items _ c.in_ok-froms.froms
          inv.sends_are c.push_reserved.ensures.items c.in_ok-froms.ensures.sends;
      gets_are = one_more (AreAtPlace run givers 0) c.loop-place.place c.loop-place.gets.items _ c.in_ok-froms.tos
          inv.gets_are c.push_reserved-in-loop-place.ensures.items c.in_ok-froms.ensures.gets;
    }
