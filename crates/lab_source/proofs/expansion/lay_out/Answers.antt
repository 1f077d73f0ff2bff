use Rattle.std.proofs.Common.{◌≡◌, ◌≢◌, Ok, Err, length, refl, sym, ap, ◌∙◌, arith}
use Rattle.cm_bits.specs.Text.{lines_left, lines_of}
use Rattle.cm_asm.proofs.Reading.{few_lines}
use Rattle.cm_language.specs.declared.fault.AsmKind.TheVariants as kind
use Rattle.lab_source.specs.declared.fault.SourceFault.{SourceFault}
use Rattle.lab_source.specs.declared.fault.SourceKind.TheVariants.{Asm}
use Rattle.lab_source.specs.Layout.{layout_after_lines, all_closed, layout_of}
use Rattle.lab_source.proofs.Laying.{one_line, told_ok, told_err}
use Rattle.lab_source.proofs.expansion.lay_out.Goals as goal

pub loop-line-init : goal.loop-line-init
loop-line-init c =
    let lines : lines_left c.into_iter-line-iterator.result ≡ lines_of c.args.source.now =
    ap lines_left c.into_iter-line-iterator.ensures.into_iter_gives ∙ c.new-line-items.ensures in
    record {
      counted = omega (arith, few_lines c.args.source.now, ap length lines);
      laid = rw (lines, c.new-laid.ensures) refl;
    }

pub read_line-requires : goal.read_line-requires
read_line-requires c = record {
  within = omega (arith, c.loop-line.invariant.counted, ap length c.in-Some.ensures.steps);
}

pub loop-line-preserved : goal.loop-line-preserved
loop-line-preserved c = record {
  counted = omega (arith, c.loop-line.invariant.counted, ap length c.in-Some.ensures.steps);
  laid = sym (one_line c.loop-line.laid c.loop-line.place c.in-Some.line.now (lines_left c.next.new.self)
      (Ok c.read_line.new.self) c.in-Ok.ensures.ok)
      ∙ (rw c.in-Some.ensures.steps at c.loop-line.invariant.laid);
}

pub returns-in-Err-clause-refused : goal.returns-in-Err-clause-refused
returns-in-Err-clause-refused c = λ other.
    let own : c.in-Err.kind ≢ Asm kind.Memory = λ e. other (ap (λ (f : SourceFault). f.kind) c.at.ensures.value ∙ e) in
    ap all_closed (sym (rw c.in-Some.ensures.steps at c.loop-line.invariant.laid)
    ∙ one_line c.loop-line.laid c.loop-line.place c.in-Some.line.now (lines_left c.next.new.self)
    (Err c.in-Err.kind) (c.in-Err.ensures.fault own))
    ∙ ap (λ (f : SourceFault). Err f) (sym c.at.ensures.value)

pub returns-clause-value : goal.returns-clause-value
unfolding layout_after_lines
returns-clause-value c =
    told_ok (layout_of (lines_of c.args.source.now)) c.all_closed.result
    (ap all_closed (sym (rw c.in-None.ensures.steps.0 at c.loop-line.invariant.laid)) ∙ sym c.all_closed.ensures.value)

pub returns-clause-refused : goal.returns-clause-refused
unfolding layout_after_lines
returns-clause-refused c =
    told_err (layout_of (lines_of c.args.source.now)) c.all_closed.result
    (λ (f : SourceFault). f.kind ≢ Asm kind.Memory)
    (ap all_closed (sym (rw c.in-None.ensures.steps.0 at c.loop-line.invariant.laid)) ∙ sym c.all_closed.ensures.value)
