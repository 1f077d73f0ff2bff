use Rattle.std.proofs.Common.{◌≡◌, ◌++◌, drop}
use Rattle.lab_counts.specs.Tables.{counted_lines}
use Rattle.lab_counts.proofs.tables.push_counted_lines.Given as goal

-- what is written, and the lines that are left, are all lines
abbrev pub invariant-loop-k : goal.invariant-loop-k
invariant-loop-k l = l.text.items ++ counted_lines l.rate l.k (drop l.k l.known)
    ≡ l.fn.text.items ++ counted_lines l.rate 0 l.known
