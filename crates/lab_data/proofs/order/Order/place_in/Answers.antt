use Rattle.lab_data.proofs.Orders.{row-lt}
use Rattle.lab_data.proofs.order.Order.place_in.Goals as goal

pub place_at-requires-clause-row : goal.place_at-requires-clause-row
place_at-requires-clause-row g c = rw c.columns-columns.ensures.value (row-lt g.S.Sizes.n c.args.index c.requires.index)
