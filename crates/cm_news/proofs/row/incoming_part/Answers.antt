use Rattle.std.proofs.Common.{length}
use Rattle.cm_news.proofs.Banding.{rows_and_columns, band_north, band_south, band_west}
use Rattle.cm_news.proofs.Banding.{band_east, open_north, open_south}
use Rattle.cm_news.proofs.Rounding.{some_columns}
use Rattle.cm_news.proofs.row.incoming_part.Goals as goal

pub turn_on-requires-clause-planes : goal.turn_on-requires-clause-planes
turn_on-requires-clause-planes c =
    rows_and_columns c.args.dims (length c.args.planes.now) c.power_of_two-columns.result
    c.power_of_two-columns.ensures.value c.requires.rows

pub turn_back-requires-clause-planes : goal.turn_back-requires-clause-planes
turn_back-requires-clause-planes c =
    rows_and_columns c.args.dims (length c.args.planes.now) c.power_of_two-columns.result
    c.power_of_two-columns.ensures.value c.requires.rows

pub turn_on-requires-clause-some : goal.turn_on-requires-clause-some
turn_on-requires-clause-some c = some_columns c.args.dims c.power_of_two-columns.result c.power_of_two-columns.ensures.value

pub turn_back-requires-clause-some : goal.turn_back-requires-clause-some
turn_back-requires-clause-some c =
    some_columns c.args.dims c.power_of_two-columns.result c.power_of_two-columns.ensures.value

pub returns-in-North : goal.returns-in-North
returns-in-North c = record {
  value = rw c.in-North.is
      (band_north c.args.dims c.power_of_two-columns.result c.args.planes.now c.args.edge.now
      c.args.out.now c.turn.new.out
      c.enter.new.out c.power_of_two-columns.ensures.value c.requires.rows c.requires.part
      (c.requires.edge (open_north c.args.dims (length c.args.planes.now) c.args.dir c.in-North.is c.requires.part))
      (rw c.in-North.is at c.turn.ensures.value) (rw c.in-North.is at c.enter.ensures.value));
}

pub returns-in-South : goal.returns-in-South
returns-in-South c = record {
  value = rw c.in-South.is
      (band_south c.args.dims c.power_of_two-columns.result c.args.planes.now c.args.edge.now c.args.out.now
      c.turn-in-South.new.out c.enter-in-South.new.out c.power_of_two-columns.ensures.value
      c.requires.rows c.requires.part
      (c.requires.edge (open_south c.args.dims (length c.args.planes.now) c.args.dir c.in-South.is c.requires.part))
      (rw c.in-South.is at c.turn-in-South.ensures.value) (rw c.in-South.is at c.enter-in-South.ensures.value));
}

pub returns-in-West : goal.returns-in-West
returns-in-West c = record {
  value = rw c.in-West.is
      (band_west c.args.dims c.power_of_two-columns.result c.args.planes.now c.args.edge.now c.turn_on.new.out
      c.power_of_two-columns.ensures.value c.requires.rows (rw c.in-West.is at c.turn_on.ensures.value));
}

pub returns-in-East : goal.returns-in-East
returns-in-East c = record {
  value = rw c.in-East.is
      (band_east c.args.dims c.power_of_two-columns.result c.args.planes.now c.args.edge.now c.turn_back.new.out
      c.power_of_two-columns.ensures.value c.requires.rows (rw c.in-East.is at c.turn_back.ensures.value));
}
