use Rattle.std.proofs.Common.{◌≡◌, ◌+◌, ◌≤◌, ◌-◌, length}
use Rattle.cm_bits.specs.Text.{lines_left, lines_of}
use Rattle.lab_plot.specs.Pictures.{head_fault, of_lines}
use Rattle.lab_plot.proofs.pictures.plot.Given as goal

-- what is left gives what all of it gave at the start, and no more lines came than there are bytes
abbrev pub invariant-loop-line : goal.invariant-loop-line
invariant-loop-line l = record {
  counted : l.before + length (lines_left l.lines) ≤ length l.text;
  rest : of_lines (l.before + 1) (lines_left l.lines) ≡ of_lines 1 (lines_of l.text);
  head : head_fault (l.before + 1) (lines_left l.lines) ≡ head_fault 1 (lines_of l.text);
}

abbrev pub decreases-loop-line : goal.decreases-loop-line
decreases-loop-line l = length l.text - l.before
