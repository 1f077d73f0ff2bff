use Rattle.std.proofs.Common.{◌≢◌, ◌≤◌, Ok, Err, None, Some, length, get_or, refl, sym, ap, ◌∙◌, arith}
use Rattle.cm_language.specs.declared.fault.AsmKind.TheVariants as asm
use Rattle.lab_source.specs.declared.fault.SourceFault.{SourceFault}
use Rattle.lab_source.specs.declared.fault.SourceKind.TheVariants.{Asm}
use Rattle.lab_source.proofs.Writing.{line_there, line_gone, next_place, no_place}
use Rattle.lab_source.proofs.expansion.carry_out.Goals as goal

pub loop-place-preserved-in_default : goal.loop-place-preserved-in_default
loop-place-preserved-in_default c =
    next_place _ c.args.constants.now c.loop-place.out c.args.order.now c.loop-place.place-index None
    (Ok c.loop-place.out) _ c.loop-place-test.true
    (line_gone c.args.lines.now (get_or c.args.order.now c.loop-place.place-index 0) c.in_default.ensures.lookup.3) refl
    c.loop-place.invariant

pub loop-place-preserved : goal.loop-place-preserved
loop-place-preserved c =
    next_place _ c.args.constants.now c.loop-place.out c.args.order.now c.loop-place.place-index (Some c.in-Some.line.now.now)
    (Ok c.write.new.self) _ c.loop-place-test.true
    (line_there c.args.lines.now (get_or c.args.order.now c.loop-place.place-index 0) c.in-Some.line.now
    c.in-Some.ensures.lookup.3.0 c.in-Some.ensures.lookup.1)
    c.in-Ok.ensures.ok c.loop-place.invariant

pub returns-in-Err-clause-refused : goal.returns-in-Err-clause-refused
returns-in-Err-clause-refused c = λ other.
    let own : c.in-Err.kind ≢ Asm asm.Memory = λ e. other (ap (λ (f : SourceFault). f.kind) c.at.ensures.value ∙ e) in
    sym (next_place _ c.args.constants.now c.loop-place.out c.args.order.now c.loop-place.place-index
    (Some c.in-Some.line.now.now) (Err c.in-Err.kind) _ c.loop-place-test.true
    (line_there c.args.lines.now (get_or c.args.order.now c.loop-place.place-index 0) c.in-Some.line.now
    c.in-Some.ensures.lookup.3.0 c.in-Some.ensures.lookup.1)
    (c.in-Err.ensures.fault own) c.loop-place.invariant)
    ∙ ap (λ (f : SourceFault). Err f) (sym c.at.ensures.value)

pub returns-clause-value : goal.returns-clause-value
returns-clause-value c =
    let past : length c.args.order.now ≤ c.loop-place.place-index = omega (arith, c.loop-place-test.false) in
    no_place _ c.args.constants.now c.loop-place.out c.args.order.now c.loop-place.place-index _ past
    c.loop-place.invariant
