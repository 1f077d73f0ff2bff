use Rattle.std.proofs.Common.{◌≤◌, vec_capacity}
use Rattle.cm_turns.specs.Lanes.{Run, own}
use Rattle.cm_resident.specs.Gathering.{AreAll}
use Rattle.cm_resident.specs.Teams.{IsEnd}
use Rattle.cm_resident.proofs.lanes.open_place.Given as goal

abbrev pub invariant-loop-block : goal.invariant-loop-block
invariant-loop-block g l =
    let run : Run = record { n = g.S.Sizes.n; k = l.k; room = g.S.Sizes.cap; machine = l.machine.machine; acts = l.acts } in
    record {
      first_room : l.count ≤ vec_capacity l.froms;
      second_room : l.count ≤ vec_capacity l.tos;
      froms_are : AreAll (IsEnd run own l.place) l.block l.froms.items;
      tos_are : AreAll (IsEnd run own l.place) l.block l.tos.items;
    }
