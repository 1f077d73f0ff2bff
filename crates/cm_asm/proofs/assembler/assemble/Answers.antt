use Rattle.std.proofs.Common.{◌≡◌, ◌+◌, Ok, Err, Result, length, take, refl, sym, ap, ◌∙◌, arith}
use Rattle.cm_bits.specs.Text.{lines_left, lines_of, words_of}
use Rattle.cm_language.specs.declared.fault.AsmKind.{AsmKind}
use Rattle.cm_language.specs.declared.fault.AsmFault.{AsmFault}
use Rattle.cm_language.specs.Program.{Reading, ProgramText, nothing_read, reading_after_words, reading_after_lines, unless_faulty}
use Rattle.cm_language.specs.Program.{program_read, program_of, IsGrownFor}
use Rattle.cm_asm.proofs.Reading.{few_lines, next_line, one_more, is_there, is_grown_for, of_kind}
use Rattle.cm_asm.proofs.assembler.assemble.Goals as goal

pub loop-bytes-init : goal.loop-bytes-init
loop-bytes-init c =
    let lines : lines_left c.into_iter-bytes-iterator.result ≡ lines_of c.args.text.now =
    ap lines_left c.into_iter-bytes-iterator.ensures.into_iter_gives ∙ c.new-bytes-items.ensures in
    record {
      counted = omega (arith, few_lines c.args.text.now, ap length lines);
      left = lines;
      before = ap (λ (r : Reading). Ok r) (sym c.new-reader.ensures);
      read = rw (lines, c.new-reader.ensures) refl;
    }

pub overflow_add-line : goal.overflow_add-line
overflow_add-line c = omega (arith, c.loop-bytes.invariant.counted, ap length c.in-Some.ensures.steps)

pub loop-bytes-preserved : goal.loop-bytes-preserved
loop-bytes-preserved c =
    let steps = c.in-Some.ensures.steps in
    let here = next_line (lines_of c.args.text.now) c.loop-bytes.line
    c.in-Some.bytes.now (lines_left c.next.new.self) (sym steps ∙ c.loop-bytes.invariant.left) in
    let step : reading_after_words c.loop-bytes.reader (words_of c.in-Some.bytes.now) ≡ Ok c.read_line.new.self =
    c.in-Ok.ensures.ok in
    record {
      counted = omega (arith, c.loop-bytes.invariant.counted, ap length steps);
      left = here.after;
      before = ap (reading_after_lines nothing_read 1) here.before
          ∙ one_more 1 nothing_read c.loop-bytes.reader
          c.read_line.new.self (take c.loop-bytes.line (lines_of c.args.text.now)) c.in-Some.bytes.now
          c.loop-bytes.invariant.before step;
      read = sym (ap (λ (q : Result Reading AsmKind). unless_faulty (c.loop-bytes.line + 1)
          q (λ r. reading_after_lines r (c.loop-bytes.line + 1 + 1) (lines_left c.next.new.self))) step)
          ∙ (rw steps at c.loop-bytes.invariant.read);
    }

pub returns-in-Err : goal.returns-in-Err
unfolding program_of
returns-in-Err c =
    let steps = c.in-Some.ensures.steps in
    let here = next_line (lines_of c.args.text.now) c.loop-bytes.line
    c.in-Some.bytes.now (lines_left c.next.new.self) (sym steps ∙ c.loop-bytes.invariant.left) in
    let there = is_there (lines_of c.args.text.now) c.loop-bytes.line
    c.in-Some.bytes.now (lines_left c.next.new.self) (sym steps ∙ c.loop-bytes.invariant.left) in
    let line : AsmFault = record { line = c.loop-bytes.line + 1; kind = c.in-Err.kind } in
    record {
      value = of_kind c.in-Err.kind
          _ (IsGrownFor c.args.text.now (c.loop-bytes.line + 1))
          (reading_after_words c.loop-bytes.reader (words_of c.in-Some.bytes.now) ≡ Err c.in-Err.kind)
          (program_of c.args.text.now ≡ Err line)
          c.in-Err.ensures.fault
          (is_grown_for c.args.text.now c.loop-bytes.line c.loop-bytes.reader c.in-Some.bytes.now
          c.loop-bytes.invariant.before here.within there)
          (λ e. ap program_read (sym (rw steps at c.loop-bytes.invariant.read)
          ∙ ap (λ (q : Result Reading AsmKind). unless_faulty (c.loop-bytes.line + 1)
          q (λ r. reading_after_lines r (c.loop-bytes.line + 1 + 1) (lines_left c.next.new.self))) e));
    }

pub returns : goal.returns
unfolding program_of
returns c =
    let steps = c.in-None.ensures.steps.0 in
    record {
      value = ap program_read (sym (rw steps at c.loop-bytes.invariant.read))
          ∙ ap (λ (p : ProgramText). Ok p) (sym c.into_program.ensures);
    }
