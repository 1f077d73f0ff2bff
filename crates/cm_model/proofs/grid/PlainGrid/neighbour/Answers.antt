use Rattle.std.proofs.Common.{◌+◌, ◌-◌, ◌%◌, ◌∙◌}
use Rattle.cm_model.specs.Place.{place_at, neighbour}
use Rattle.cm_model.proofs.grid.PlainGrid.neighbour.Goals as goal

pub returns-in-North-clause-value : goal.returns-in-North-clause-value
unfolding neighbour
returns-in-North-clause-value g c = rw c.in-North.is
    (c.place_at.ensures.value
    ∙ (λ i. place_at g.row.N
    ((c.row_of-row.ensures.value i + c.rows-rows.ensures.value i - 1) % c.rows-rows.ensures.value i)
    (c.column_of-column.ensures.value i)))

pub returns-in-South-clause-value : goal.returns-in-South-clause-value
unfolding neighbour
returns-in-South-clause-value g c = rw c.in-South.is
    (c.place_at-in-South.ensures.value
    ∙ (λ i. place_at g.row.N ((c.row_of-row.ensures.value i + 1) % c.rows-rows.ensures.value i)
    (c.column_of-column.ensures.value i)))

pub returns-in-West-clause-value : goal.returns-in-West-clause-value
unfolding neighbour
returns-in-West-clause-value g c = rw c.in-West.is
    (c.place_at-in-West.ensures.value
    ∙ (λ i. place_at g.row.N (c.row_of-row.ensures.value i)
    ((c.column_of-column.ensures.value i + c.columns-columns.ensures.value i - 1)
    % c.columns-columns.ensures.value i)))

pub returns-in-East-clause-value : goal.returns-in-East-clause-value
unfolding neighbour
returns-in-East-clause-value g c = rw c.in-East.is
    (c.place_at-in-East.ensures.value
    ∙ (λ i. place_at g.row.N (c.row_of-row.ensures.value i)
    ((c.column_of-column.ensures.value i + 1) % c.columns-columns.ensures.value i)))
