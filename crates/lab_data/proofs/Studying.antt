-- Studies and routes by the text of a program.
use Rattle.std.proofs.Common.{◌≡◌, ◌≢◌, ℕ, List, Result, Err, refl, sym, ap, ◌∙◌}
use Rattle.cm_model.specs.declared.act.Act.{Act}
use Rattle.cm_language.specs.declared.fault.AsmKind.{AsmKind}
use Rattle.cm_language.specs.declared.fault.AsmKind.TheVariants as kind
use Rattle.cm_language.specs.declared.fault.AsmFault.{AsmFault}
use Rattle.cm_language.specs.Program.{program_of, MatchKind, IsFaultOf}
use Rattle.lab_data.specs.declared.lab.LabFault.{LabFault}
use Rattle.lab_data.specs.declared.lab.LabFault.TheVariants as lab
use Rattle.lab_data.specs.Lab.{of_program}

-- a kind that is not want of memory is the line's own
own_kind : (k : AsmKind) (A B : Type 0) → k ≢ kind.Memory → MatchKind k A B → B
own_kind kind.Memory A B other h = absurd (other refl)
own_kind kind.Width A B other h = h
own_kind kind.Range A B other h = h
own_kind kind.Overlap A B other h = h
own_kind kind.Lengths A B other h = h
own_kind kind.Scratch A B other h = h
own_kind kind.Context A B other h = h
own_kind kind.Word A B other h = h
own_kind kind.Operands A B other h = h
own_kind kind.Number A B other h = h
own_kind kind.Name A B other h = h
own_kind kind.Twice A B other h = h
own_kind kind.TooLong A B other h = h

-- a text that is no program, as the laboratory tells it
pub no_program : (made : List Act → Result (List ℕ) LabFault) (given : List ℕ) (fault : AsmFault) (told : LabFault)
    → IsFaultOf given fault → (fault.kind ≡ kind.Memory → told ≡ lab.Memory)
    → (fault.kind ≢ kind.Memory → told ≡ lab.Program fault) → told ≢ lab.Memory
    → of_program made (program_of given) ≡ Err told
no_program made given fault told is same others other =
    let own : fault.kind ≢ kind.Memory = λ e. other (same e) in
    ap (of_program made) (own_kind fault.kind _ _ own is) ∙ ap (λ f. Err f) (sym (others own))
