use Rattle.std.proofs.Common.{◌≡◌, ◌++◌, map}
use Rattle.cm_bits.specs.Text.{lines_left, lines_of}
use Rattle.lab_source.proofs.expansion.lines_of.Given as goal

-- the lines so far, and those that are left
abbrev pub invariant-loop-line : goal.invariant-loop-line
invariant-loop-line l =
    map (λ line. line.now) l.lines.items ++ lines_left l.line-iterator ≡ lines_of l.fn.source
