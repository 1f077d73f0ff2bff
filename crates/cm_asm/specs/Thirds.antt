-- Operands that are read one after the other: ours.
use Rattle.std.specs.Prelude.{Result, Ok}
use Rattle.cm_language.specs.declared.fault.AsmKind.{AsmKind}
use Rattle.cm_language.specs.Lines.{◌>>=◌}

-- all three, or the first fault
abbrev pub all_three : {A B C : Type 0} → Result A AsmKind → Result B AsmKind → Result C AsmKind
    → Result (A × B × C) AsmKind
all_three x y z = x >>= λ a. y >>= λ b. z >>= λ c. Ok (a, b, c)
