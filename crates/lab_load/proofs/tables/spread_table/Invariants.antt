use Rattle.std.proofs.Common.{◌≡◌, ◌++◌, take}
use Rattle.std.specs.List.{flat_map}
use Rattle.lab_load.specs.Tables.{spread_header, spread_line}
use Rattle.lab_load.proofs.tables.spread_table.Given as goal

-- the lines of so many rates
abbrev pub invariant-loop-spreads : goal.invariant-loop-spreads
invariant-loop-spreads l = l.text.items ≡ spread_header ++ flat_map spread_line (take l.spreads-index l.rates)
