use Rattle.cm_model.proofs.Torus.{place_at_is_place}
use Rattle.cm_model.proofs.grid.PlainGrid.place_at.Goals as goal

pub returns-clause-within : goal.returns-clause-within
returns-clause-within g c = rw c.chip_columns.ensures.value
    (place_at_is_place g.row.N c.args.row c.args.column c.requires.row c.requires.column).chip
