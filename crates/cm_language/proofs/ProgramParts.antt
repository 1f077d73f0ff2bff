-- More on what programs are made of, for the proofs.
use Rattle.std.proofs.Common.{◌<◌, List, [], ◌∷◌, ◌++◌, sym, subst, append_assoc, append-nil}
use Rattle.cm_bits.specs.Span.{IsField}
use Rattle.cm_model.specs.declared.act.Act.{Act}
use Rattle.cm_language.specs.declared.macros.Macro.{Macro}
use Rattle.cm_language.specs.declared.macros.Macro.TheVariants.{Add, Sub, Less, Equal, Move, Select, Const, Shift, Mul}
use Rattle.cm_language.specs.declared.macros.Macro.TheVariants.{Set, Clear}
use Rattle.cm_language.specs.declared.macros.Context.{Context}
use Rattle.cm_language.specs.declared.macros.Context.TheVariants.{Always, On, Off}
use Rattle.cm_language.specs.Names.{NamedField}
use Rattle.cm_language.specs.Whole.{AreProgramActs, MayFollow, AreNext}

-- ---- fields

-- all of them are fields
abbrev pub AreFields : List NamedField → Type 0
AreFields [] = Unit {0}
AreFields (defined ∷ fields) = IsField defined.field × AreFields fields

-- ---- flags

-- the flag of a context is one
abbrev pub HasFlag : Context → Type 0
HasFlag Always = Unit {0}
HasFlag (On f) = f < 16
HasFlag (Off f) = f < 16

-- the flags that a macro names are flags
abbrev pub NamesFlags : Macro → Type 0
NamesFlags (Add d s) = Unit {0}
NamesFlags (Sub d s) = Unit {0}
NamesFlags (Less x y) = Unit {0}
NamesFlags (Equal x y) = Unit {0}
NamesFlags (Move d s) = Unit {0}
NamesFlags (Select d s f) = f < 16
NamesFlags (Const d v) = Unit {0}
NamesFlags (Shift d) = Unit {0}
NamesFlags (Mul d x y) = Unit {0}
NamesFlags (Set f) = f < 16
NamesFlags (Clear f) = f < 16

-- ---- one after another

-- definitions have fields
pub are_fields : (before later : List NamedField) → AreNext before later → AreFields later
are_fields before [] next = tt
are_fields before (defined ∷ later) next = (next.0.field, are_fields (before ++ defined ∷ []) later next.1)

-- a definition that may follow is the last of them
pub next-append : (before later : List NamedField) (defined : NamedField) → AreNext before later
    → MayFollow (before ++ later) defined → AreNext before (later ++ defined ∷ [])
next-append before [] defined next is = (subst (λ fields. MayFollow fields defined) (append-nil before) is, tt)
next-append before (first ∷ later) defined next is = (
  next.0,
  next-append (before ++ first ∷ []) later defined next.1
      (subst (λ fields. MayFollow fields defined) (sym (append_assoc before (first ∷ []) later)) is),
)

-- acts after acts
pub acts-append : (acts more : List Act) → AreProgramActs acts → AreProgramActs more → AreProgramActs (acts ++ more)
acts-append [] more are are_more = are_more
acts-append (a ∷ acts) more are are_more = (are.0, acts-append acts more are.1 are_more)
