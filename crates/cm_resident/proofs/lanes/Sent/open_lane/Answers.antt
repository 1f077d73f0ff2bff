use Rattle.std.proofs.Common.{arith}
use Rattle.cm_turns.specs.Lanes.{is_over, parcel_sent, rounds_in, Run}
use Rattle.cm_turns.proofs.Picking.{picks_short}
use Rattle.cm_resident.proofs.lanes.Sent.open_lane.Goals as goal

pub open-requires : goal.open-requires
open-requires g c =
    let run : Run =
    record {
      n = g.S.Sizes.n;
      k = c.args.self.k;
      room = g.S.Sizes.cap;
      machine = c.args.self.machine.now.machine;
      acts = c.args.self.acts.now;
    } in
    record {
      few = let f = picks_short (is_over run.n run.k c.args.self.place) (parcel_sent run c.args.self.block) 0 (rounds_in run) in
          omega (arith, f, c.requires.few);
    }
