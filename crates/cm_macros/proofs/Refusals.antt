-- A cause that was found is why the macro is refused.
use Rattle.std.proofs.Common.{◌≡◌, ◌||◌, Bool, true, false, Option, Some, None}
use Rattle.std.specs.Prelude.{if◌then◌else◌}
use Rattle.cm_language.specs.declared.macros.Macro.{Macro}
use Rattle.cm_language.specs.declared.macros.Context.{Context}
use Rattle.cm_language.specs.declared.fault.MacroFault.{MacroFault}
use Rattle.cm_language.specs.declared.fault.MacroFault.TheVariants as fault
use Rattle.cm_language.specs.Faults.{overlaps, misfits, writes_condition, names_fixed, is_conditional_product}
use Rattle.cm_language.specs.Faults.{first_fault, IsRefusal}

abbrev chosen_fault : Bool → Bool → Bool → Bool → Option MacroFault
chosen_fault a b s x =
    if a then Some fault.Overlap else (if b
    then Some fault.Lengths else (if s then Some fault.Scratch else (if x then Some fault.Context else None)))

-- want of memory is none of the four
never_memory : (a b s x : Bool) → chosen_fault a b s x ≡ Some fault.Memory → ⊥
never_memory true b s x h = cc
never_memory false true s x h = cc
never_memory false false true x h = cc
never_memory false false false true h = cc
never_memory false false false false h = cc

pub is_refusal : (m : Macro) (c : Context) (wanting : Type 0) (f : MacroFault) → first_fault m c ≡ Some f
    → IsRefusal m c wanting f
is_refusal m c wanting fault.Overlap h = h
is_refusal m c wanting fault.Lengths h = h
is_refusal m c wanting fault.Scratch h = h
is_refusal m c wanting fault.Context h = h
is_refusal m c wanting fault.Memory h = absurd (never_memory (overlaps m) (misfits m)
    (writes_condition m c || names_fixed m) (is_conditional_product m c) h)
