use Rattle.std.proofs.Common.{arith}
use Rattle.lab_data.specs.declared.order.Order.TheVariants.{Rows as by_rows}
use Rattle.lab_data.proofs.Orders.{each_processor_comes_once}
use Rattle.lab_data.proofs.order.Order.index_in.Goals as goal

pub returns-in-Rows-clause-within : goal.returns-in-Rows-clause-within
returns-in-Rows-clause-within g c =
    rw (c.chip_columns-chip_columns.ensures.value, c.from-chip.ensures, c.from-proc.ensures, c.get.ensures.value)
    ((each_processor_comes_once g.S.Sizes.n by_rows).within c.args.place
    (record { chip = c.requires.chip; proc = omega (arith, c.get.ensures.value, c.get.ensures.in_range) }))
