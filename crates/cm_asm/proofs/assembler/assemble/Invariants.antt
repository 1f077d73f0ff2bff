use Rattle.std.proofs.Common.{◌≡◌, ◌+◌, ◌≤◌, Ok, drop, length, take}
use Rattle.cm_bits.specs.Text.{lines_left, lines_of}
use Rattle.cm_language.specs.Program.{nothing_read, reading_after_lines}
use Rattle.cm_asm.proofs.assembler.assemble.Given as goal

abbrev pub invariant-loop-bytes : goal.invariant-loop-bytes
invariant-loop-bytes l = record {
  counted : l.line + length (lines_left l.bytes-iterator) ≤ length l.fn.text;
  left : lines_left l.bytes-iterator ≡ drop l.line (lines_of l.fn.text);
  before : reading_after_lines nothing_read 1 (take l.line (lines_of l.fn.text)) ≡ Ok l.reader;
  read : reading_after_lines l.reader (l.line + 1) (lines_left l.bytes-iterator)
      ≡ reading_after_lines nothing_read 1 (lines_of l.fn.text);
}
