use Rattle.std.proofs.Common.{◌*◌, sym, ◌∙◌}
use Rattle.lab_data.proofs.Orders.{grid_rows}
use Rattle.lab_data.proofs.lab.read_grid.Goals as goal

pub returns-in-Ok-clause-count : goal.returns-in-Ok-clause-count
returns-in-Ok-clause-count g c =
    c.in-Ok.ensures.count ∙ (λ j. c.rows.ensures.value j * c.columns.ensures.value j) ∙ sym (grid_rows g.S.Sizes.n)
