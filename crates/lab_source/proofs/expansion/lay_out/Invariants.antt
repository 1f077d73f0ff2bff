use Rattle.std.proofs.Common.{◌≡◌, ◌+◌, ◌≤◌, length}
use Rattle.cm_bits.specs.Text.{lines_left, lines_of}
use Rattle.lab_source.specs.Layout.{nothing_laid, layout_after_lines}
use Rattle.lab_source.proofs.expansion.lay_out.Given as goal

-- what is left lays out what all of it does from the start
abbrev pub invariant-loop-line : goal.invariant-loop-line
invariant-loop-line l = record {
  counted : l.place + length (lines_left l.line-iterator) ≤ length l.fn.source;
  laid : layout_after_lines l.laid l.place (lines_left l.line-iterator) ≡ layout_after_lines nothing_laid 0 (lines_of l.fn.source);
}
