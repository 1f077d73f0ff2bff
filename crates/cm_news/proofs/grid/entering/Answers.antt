use Rattle.cm_news.proofs.Stepping.{entering_north, entering_south, entering_west}
use Rattle.cm_news.proofs.grid.entering.Goals as goal

pub returns-in-North : goal.returns-in-North
returns-in-North c = record { value = λ p h. rw (c.in-North.is, c.from-edge.ensures) (entering_north c.args.edge p h) }

pub returns-in-South : goal.returns-in-South
returns-in-South c =
    record { value = λ p h. rw (c.in-South.is, c.from-edge.ensures) (entering_south c.args.edge c.requires.within p h) }

pub returns-in-West : goal.returns-in-West
returns-in-West c = record {
  value = λ p h. rw c.in-West.is (entering_west c.args.edge c.to_first_column.result
      (λ k j. rw (← c.from-edge.ensures) (c.to_first_column.ensures.value k j)) p h);
}
