use Rattle.std.proofs.Common.{◌≡◌, ◌-◌}
use Rattle.lab_plot.specs.Rows.{fault_from}
use Rattle.lab_plot.proofs.rows.first_fault.Given as goal

-- the cells that are left give what all of them gave
abbrev pub invariant-loop-column : goal.invariant-loop-column
invariant-loop-column l =
    fault_from l.number l.line l.column (l.columns - l.column) ≡ fault_from l.number l.line 0 l.columns
