use Rattle.std.proofs.Common.{◌≡◌, ◌*◌}
use Rattle.cm_model.specs.Place.{rows, columns}
use Rattle.lab_data.specs.Data.{processors}
use Rattle.lab_data.proofs.Orders.{grid_rows}
use Rattle.lab_data.proofs.pictures.of_grid.Goals as goal

pub new-requires : goal.new-requires
new-requires g c = record {
  dots =
      let size : processors g.S.Sizes.n ≡ rows g.S.Sizes.n * columns g.S.Sizes.n = grid_rows g.S.Sizes.n in
      cc;
}
