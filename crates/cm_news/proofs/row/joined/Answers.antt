use Rattle.cm_news.proofs.Stepping.{joined_north, joined_south, joined_west, joined_east}
use Rattle.cm_news.proofs.row.joined.Goals as goal

pub returns-in-North : goal.returns-in-North
returns-in-North c =
    record { value = λ p h. rw c.in-North.is (joined_north c.args.own c.args.before c.ranges.own.fits p h) }

pub returns-in-South : goal.returns-in-South
returns-in-South c =
    record { value = λ p h. rw c.in-South.is (joined_south c.args.own c.args.before c.ranges.before.fits p h) }

pub returns-in-West : goal.returns-in-West
returns-in-West c = record { value = λ p h. rw c.in-West.is (joined_west c.args.own c.args.before p h) }

pub returns-in-East : goal.returns-in-East
returns-in-East c = record { value = λ p h. rw c.in-East.is (joined_east c.args.own c.args.before p h) }
