use Rattle.std.proofs.Common.{◌≡◌, ◌+◌, ◌≤◌, Ok, drop, length, take}
use Rattle.cm_bits.specs.Text.{lines_left, lines_of}
use Rattle.cm_tools.specs.Program.{nanos_of_lines, nanos_of}
use Rattle.cm_tools.proofs.Reading.{prepended}
use Rattle.cm_tools.proofs.program.read_program.Given as goal

abbrev pub invariant-loop-bytes : goal.invariant-loop-bytes
invariant-loop-bytes l = record {
  counted : l.line + length (lines_left l.bytes-iterator) ≤ length l.fn.text + 1;
  left : lines_left l.bytes-iterator ≡ drop l.line (lines_of l.fn.text);
  before : nanos_of_lines 1 (take l.line (lines_of l.fn.text)) ≡ Ok l.nanos.items;
  read : prepended l.nanos.items (nanos_of_lines (l.line + 1) (lines_left l.bytes-iterator)) ≡ nanos_of l.fn.text;
}
