use Rattle.std.proofs.Common.{ℕ, ◌-◌, ◌*◌, sym, ap, ◌∙◌, arith}
use Rattle.cm_news.proofs.Rounding.{rows_of_columns, some_columns, all_north, all_south, all_west, all_east}
use Rattle.cm_news.proofs.row.incoming_row.Goals as goal

pub turn-requires-clause-planes : goal.turn-requires-clause-planes
turn-requires-clause-planes c =
    let all = rows_of_columns c.args.dims c.power_of_two-rows.result c.power_of_two-columns.result
    c.power_of_two-rows.ensures.value c.power_of_two-columns.ensures.value in
    omega (arith, all, c.requires.planes)

pub turn-requires-in-South-clause-planes : goal.turn-requires-in-South-clause-planes
turn-requires-in-South-clause-planes c =
    let all = rows_of_columns c.args.dims c.power_of_two-rows.result c.power_of_two-columns.result
    c.power_of_two-rows.ensures.value c.power_of_two-columns.ensures.value in
    omega (arith, all, c.requires.planes)

pub turn_on-requires-clause-planes : goal.turn_on-requires-clause-planes
turn_on-requires-clause-planes c =
    rows_of_columns c.args.dims c.power_of_two-rows.result c.power_of_two-columns.result
    c.power_of_two-rows.ensures.value c.power_of_two-columns.ensures.value ∙ sym c.requires.planes

pub turn_back-requires-clause-planes : goal.turn_back-requires-clause-planes
turn_back-requires-clause-planes c =
    rows_of_columns c.args.dims c.power_of_two-rows.result c.power_of_two-columns.result
    c.power_of_two-rows.ensures.value c.power_of_two-columns.ensures.value ∙ sym c.requires.planes

pub turn_on-requires-clause-some : goal.turn_on-requires-clause-some
turn_on-requires-clause-some c = some_columns c.args.dims c.power_of_two-columns.result c.power_of_two-columns.ensures.value

pub turn_back-requires-clause-some : goal.turn_back-requires-clause-some
turn_back-requires-clause-some c =
    some_columns c.args.dims c.power_of_two-columns.result c.power_of_two-columns.ensures.value

pub returns-in-North : goal.returns-in-North
returns-in-North c =
    let all = rows_of_columns c.args.dims c.power_of_two-rows.result c.power_of_two-columns.result
    c.power_of_two-rows.ensures.value c.power_of_two-columns.ensures.value in
    record {
      value = rw c.in-North.is
          (all_north c.args.dims _ _ c.args.planes.now c.args.out.now c.turn.new.out all
          c.power_of_two-columns.ensures.value (rw c.in-North.is at c.turn.ensures.value));
    }

pub returns-in-South : goal.returns-in-South
returns-in-South c =
    let all = rows_of_columns c.args.dims c.power_of_two-rows.result c.power_of_two-columns.result
    c.power_of_two-rows.ensures.value c.power_of_two-columns.ensures.value in
    let by = ap (λ (k : ℕ). c.power_of_two-rows.result * c.power_of_two-columns.result - k)
    c.power_of_two-columns.ensures.value in
    record {
      value = rw c.in-South.is
          (all_south c.args.dims _ _ c.args.planes.now c.args.out.now c.turn-in-South.new.out all by
          (rw c.in-South.is at c.turn-in-South.ensures.value));
    }

pub returns-in-West : goal.returns-in-West
returns-in-West c = record {
  value = rw c.in-West.is
      (all_west c.args.dims c.power_of_two-columns.result c.args.planes.now c.turn_on.new.out
      c.power_of_two-columns.ensures.value
      (rw (c.in-West.is, c.power_of_two-rows.ensures.value) at c.turn_on.ensures.value));
}

pub returns-in-East : goal.returns-in-East
returns-in-East c = record {
  value = rw c.in-East.is
      (all_east c.args.dims c.power_of_two-columns.result c.args.planes.now c.turn_back.new.out
      c.power_of_two-columns.ensures.value
      (rw (c.in-East.is, c.power_of_two-rows.ensures.value) at c.turn_back.ensures.value));
}
