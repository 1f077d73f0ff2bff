use Rattle.std.proofs.Common.{rules}
use Rattle.cm_model.proofs.Torus.{place_at_is_place}
use Rattle.lab_data.proofs.order.place_at.Goals as goal

pub returns-clause-there : goal.returns-clause-there
returns-clause-there g c = record {
  chip = rw c.chip_columns.ensures.value
      (place_at_is_place g.S.Sizes.n c.args.row c.args.column c.requires.row c.requires.column).chip;
  proc = search rules;
}
