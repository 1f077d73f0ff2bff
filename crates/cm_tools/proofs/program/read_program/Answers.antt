use Rattle.std.proofs.Common.{◌≡◌, ◌+◌, Ok, List, [], ◌∷◌, ◌++◌, length, take, sym, ap, ◌∙◌, arith, append-nil, rules}
use Rattle.cm_bits.specs.Text.{lines_left, lines_of}
use Rattle.cm_model.specs.declared.act.Nano.{Nano}
use Rattle.cm_tools.specs.Program.{nanos_of, nanos_of_lines}
use Rattle.cm_tools.proofs.Reading.{none_before, few_lines, read_blank, read_instruction, read_fault, next_line}
use Rattle.cm_tools.proofs.Reading.{read_on_blank, read_on_instruction, accepted_through, refused_at}
use Rattle.cm_tools.proofs.program.read_program.Goals as goal

pub loop-bytes-init : goal.loop-bytes-init
unfolding nanos_of
loop-bytes-init c =
    let lines : lines_left c.into_iter-bytes-iterator.result ≡ lines_of c.args.text.now =
    ap lines_left c.into_iter-bytes-iterator.ensures.into_iter_gives ∙ c.new-bytes-items.ensures in
    record {
      counted = omega (arith, few_lines c.args.text.now, ap length lines);
      left = lines;
      before = ap (λ (xs : List Nano). Ok xs) (sym c.new-nanos.ensures.items);
      read = rw (lines, c.new-nanos.ensures.items) (none_before (nanos_of_lines 1 (lines_of c.args.text.now)));
    }

pub overflow_add-line : goal.overflow_add-line
overflow_add-line c = omega (arith, c.loop-bytes.invariant.counted)

pub loop-bytes-preserved-in-Ok-None : goal.loop-bytes-preserved-in-Ok-None
loop-bytes-preserved-in-Ok-None c =
    let steps = c.in-Some.ensures.steps in
    let here = next_line (lines_of c.args.text.now) c.loop-bytes.line
    c.in-Some.bytes.now (lines_left c.next.new.self) (sym steps ∙ c.loop-bytes.invariant.left) in
    let blank = sym c.read_line.ensures.value ∙ c.in-Ok-None.is ∙ ap (λ o. Ok o) c.in-Ok-None.field-0-is in
    record {
      counted = omega (arith, c.loop-bytes.invariant.counted, ap length steps);
      left = here.after;
      before = ap (nanos_of_lines 1) here.before
          ∙ read_on_blank (take c.loop-bytes.line (lines_of c.args.text.now)) c.in-Some.bytes.now
          c.loop-bytes.nanos.items c.loop-bytes.invariant.before blank;
      read = sym (read_blank c.loop-bytes.nanos.items (c.loop-bytes.line + 1)
          c.in-Some.bytes.now (lines_left c.next.new.self) blank)
          ∙ (rw steps at c.loop-bytes.invariant.read);
    }

pub loop-bytes-preserved : goal.loop-bytes-preserved
loop-bytes-preserved c =
    let steps = c.in-Some.ensures.steps in
    let here = next_line (lines_of c.args.text.now) c.loop-bytes.line
    c.in-Some.bytes.now (lines_left c.next.new.self) (sym steps ∙ c.loop-bytes.invariant.left) in
    let pushed : c.push.new.self.items ≡ c.loop-bytes.nanos.items ++ c.in-Ok-Some.nano ∷ [] =
    search (rules, c.push.ensures.items, c.is_err.ensures.negation, c.if-is_err.false) in
    let found = sym c.read_line.ensures.value ∙ c.in-Ok-Some.is ∙ ap (λ o. Ok o) c.in-Ok-Some.field-0-is in
    record {
      counted = omega (arith, c.loop-bytes.invariant.counted, ap length steps);
      left = here.after;
      before = rw pushed (ap (nanos_of_lines 1) here.before
          ∙ read_on_instruction (take c.loop-bytes.line (lines_of c.args.text.now)) c.in-Some.bytes.now
          c.loop-bytes.nanos.items c.in-Ok-Some.nano c.loop-bytes.invariant.before found);
      read = rw pushed (sym (read_instruction c.loop-bytes.nanos.items (c.loop-bytes.line + 1)
          c.in-Some.bytes.now (lines_left c.next.new.self) c.in-Ok-Some.nano found)
          ∙ (rw steps at c.loop-bytes.invariant.read));
    }

pub returns-in-Err : goal.returns-in-Err
returns-in-Err c =
    let steps = c.in-Some.ensures.steps in
    record {
      value = refused_at c.args.text.now (c.loop-bytes.line + 1) c.in-Err.kind c.in-Err.ensures.own
          (sym (rw steps at c.loop-bytes.invariant.read)
          ∙ read_fault c.loop-bytes.nanos.items (c.loop-bytes.line + 1)
          c.in-Some.bytes.now (lines_left c.next.new.self) c.in-Err.kind
          (sym c.read_line.ensures.value ∙ c.in-Err.is));
    }

pub returns : goal.returns
returns c =
    let steps = c.in-None.ensures.steps.0 in
    record {
      value = sym (rw steps at c.loop-bytes.invariant.read)
          ∙ ap (λ (xs : List Nano). Ok xs) (append-nil c.loop-bytes.nanos.items);
    }

pub returns-then-is_err : goal.returns-then-is_err
returns-then-is_err c =
    let steps = c.in-Some.ensures.steps in
    let here = next_line (lines_of c.args.text.now) c.loop-bytes.line
    c.in-Some.bytes.now (lines_left c.next.new.self) (sym steps ∙ c.loop-bytes.invariant.left) in
    let found = sym c.read_line.ensures.value ∙ c.in-Ok-Some.is ∙ ap (λ o. Ok o) c.in-Ok-Some.field-0-is in
    record {
      value = accepted_through c.args.text.now c.loop-bytes.line c.loop-bytes.nanos.items c.in-Ok-Some.nano
          c.loop-bytes.invariant.before
          (ap (nanos_of_lines 1) here.before
          ∙ read_on_instruction (take c.loop-bytes.line (lines_of c.args.text.now)) c.in-Some.bytes.now
          c.loop-bytes.nanos.items c.in-Ok-Some.nano c.loop-bytes.invariant.before found);
    }
