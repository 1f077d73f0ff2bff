use Rattle.std.proofs.Common.{◌≡◌, ◌+◌, ◌≤◌, length}
use Rattle.cm_bits.specs.Text.{lines_left}
use Rattle.lab_figures.specs.Numbers.{numbers_after_lines, numbers_in}
use Rattle.lab_figures.proofs.numbers.read_numbers.Given as goal

-- what is left gives what all of it gave at the start
abbrev pub invariant-loop-bytes : goal.invariant-loop-bytes
invariant-loop-bytes l = record {
  counted : l.line + length (lines_left l.bytes-iterator) ≤ length l.fn.text;
  read : numbers_after_lines l.len l.count (l.line + 1) l.numbers.items (lines_left l.bytes-iterator)
      ≡ numbers_in l.len l.count l.fn.text;
}
