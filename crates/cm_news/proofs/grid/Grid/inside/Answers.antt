use Rattle.cm_news.proofs.Stepping.{inside_north, inside_south, inside_west, inside_east}
use Rattle.cm_news.proofs.grid.Grid.inside.Goals as goal

pub returns-in-North : goal.returns-in-North
returns-in-North g c = record { value = λ p h. rw c.in-North.is (inside_north c.args.plane c.ranges.plane.fits p h) }

pub returns-in-South : goal.returns-in-South
returns-in-South g c = record { value = λ p h. rw c.in-South.is (inside_south c.args.plane p h) }

pub returns-in-West : goal.returns-in-West
returns-in-West g c = record { value = λ p h. rw c.in-West.is (inside_west c.args.plane p h) }

pub returns-in-East : goal.returns-in-East
returns-in-East g c = record { value = λ p h. rw c.in-East.is (inside_east c.args.plane p h) }
