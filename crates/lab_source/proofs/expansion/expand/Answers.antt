use Rattle.std.proofs.Common.{ℕ, Ok, Err, Result, List, Bor, map, ap, ◌∙◌, sym}
use Rattle.lab_source.specs.declared.fault.SourceFault.{SourceFault}
use Rattle.lab_source.proofs.Writing.{out_of, not_laid}
use Rattle.lab_source.proofs.expansion.expand.Goals as goal

pub returns-in-Err-clause-refused : goal.returns-in-Err-clause-refused
returns-in-Err-clause-refused c = λ other. not_laid c.args.source.now c.in-Err.fault (c.in-Err.ensures.refused other)

pub returns-in-Ok-carry_out-clause-value : goal.returns-in-Ok-carry_out-clause-value
returns-in-Ok-carry_out-clause-value c =
    out_of c.args.source.now c.in-Ok.laid _ _ _ (Ok c.in-Ok-carry_out.out) c.in-Ok.ensures.value
    (ap (map (λ (line : Bor (List ℕ)). line.now)) c.as_slice.ensures.value ∙ c.in-Ok-lines_of.ensures.value)
    c.into_parts.ensures.constants (c.as_slice-2.ensures.value ∙ c.into_parts.ensures.order)
    c.in-Ok-carry_out.ensures.value
    ∙ ap (λ (text : List ℕ). let r : Result (List ℕ) SourceFault = Ok text in r) (sym c.into_text.ensures.value)

pub returns-clause-refused : goal.returns-clause-refused
returns-clause-refused c = λ other.
    out_of c.args.source.now c.in-Ok.laid _ _ _ (Err c.in-Err-carry_out.fault) c.in-Ok.ensures.value
    (ap (map (λ (line : Bor (List ℕ)). line.now)) c.as_slice.ensures.value ∙ c.in-Ok-lines_of.ensures.value)
    c.into_parts.ensures.constants (c.as_slice-2.ensures.value ∙ c.into_parts.ensures.order)
    (c.in-Err-carry_out.ensures.refused other)
