use Rattle.cm_slots.proofs.Standing.{get_or-zeros}
use Rattle.cm_slots.proofs.tile.Tile.close_up.Goals as goal

pub take_in-requires-clause-taken : goal.take_in-requires-clause-taken
take_in-requires-clause-taken c = λ i h some. absurd (some (get_or-zeros 64 i))

pub returns : goal.returns
returns c =
    let came = c.take_in.ensures.value in
    record {
      value = record {
        shape = came.shape;
        came = λ i numbers h few are. rw (get_or-zeros 64 i) at (came.came i numbers h few are);
        quiet = came.quiet;
      };
    }
