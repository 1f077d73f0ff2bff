-- What the operands of a line are read as is in its range.
use Rattle.std.proofs.Common.{◌≡◌, ℕ, ◌<◌, Bool, true, false, Option, None, Some, Result, Ok, Err, List, [], ◌∷◌, refl}
use Rattle.std.proofs.Common.{arith}
use Rattle.std.specs.Prelude.{if◌then◌else◌, bytes_eq, nat_lt}
use Rattle.std.specs.Option.{ok_or}
use Rattle.std.specs.Result.{IfOk}
use Rattle.std.proofs.lemmas.Bool.Decides.{nat_tests}
use Rattle.cm_bits.specs.Span.{Span, IsField}
use Rattle.cm_bits.specs.Text.{number_of}
use Rattle.cm_language.specs.declared.statement.Statement.{Statement}
use Rattle.cm_language.specs.declared.statement.Statement.TheVariants as statement
use Rattle.cm_language.specs.declared.fault.AsmKind.{AsmKind}
use Rattle.cm_language.specs.declared.fault.AsmKind.TheVariants.{Number, Name}
use Rattle.cm_language.specs.Laws.{HasFields}
use Rattle.cm_language.specs.Names.{NamedField, field_named}
use Rattle.cm_language.specs.Lines.{◌>>=◌, number_below, operand_of, number_operand, sense_operand, direction_of}
use Rattle.cm_language.specs.Lines.{field_operand, flag_operand, one_field, two_fields, choice_of, constant_of}
use Rattle.cm_language.specs.Lines.{product_of, nano_of}
use Rattle.cm_language.specs.Whole.{IsInstruction, IsProgramAct}
use Rattle.cm_language.proofs.ProgramParts.{AreFields, HasFlag, NamesFlags}

-- what a line may say
abbrev pub IsSaid : Statement → Type 0
IsSaid (statement.Context c) = HasFlag c
IsSaid (statement.Macro m) = HasFields m × NamesFlags m
IsSaid (statement.Act a) = IsProgramAct a

-- ---- faults stop

-- what comes after a step that was right
pub if_ok-then : {A B : Type 0} (x : Result A AsmKind) (f : A → Result B AsmKind) (P : A → Type 0) (Q : B → Type 0)
    → IfOk x P → ((a : A) → P a → IfOk (f a) Q) → IfOk (x >>= f) Q
if_ok-then (Ok a) f P Q h step = step a h
if_ok-then (Err e) f P Q h step = tt

-- nothing is said of what was right
pub any_ok : {A : Type 0} (x : Result A AsmKind) → IfOk x (λ a. Unit {0})
any_ok (Ok a) = tt
any_ok (Err e) = tt

-- ---- operands

-- a number that passes is below the limit
below : (limit n : ℕ) (b : Bool) → nat_lt n limit ≡ b
    → IfOk {E = AsmKind} (if b then Ok n else Err Number) (λ m. m < limit)
below limit n true h = grind (arith, nat_tests, h)
below limit n false h = tt

-- so is any that is taken
number_below_ok : (limit : ℕ) (o : Option ℕ) → IfOk (number_below limit o) (λ n. n < limit)
number_below_ok limit None = tt
number_below_ok limit (Some n) = below limit n (nat_lt n limit) refl

-- an operand below a limit
pub operand_ok : (limit : ℕ) (word : List ℕ) → IfOk (operand_of limit word) (λ n. n < limit)
operand_ok limit word = number_below_ok limit (number_of word)

-- the field of the first name or of a later one
found : (b : Bool) (here : Span) (o : Option Span) → IsField here → IfOk (ok_or o Name) IsField
    → IfOk (ok_or (if b then Some here else o) Name) IsField
found true here o is rest = is
found false here o is rest = rest

-- an operand that names a field
pub field_ok : (fields : List NamedField) (word : List ℕ) → AreFields fields → IfOk (field_operand fields word) IsField
field_ok [] word are = tt
field_ok (defined ∷ fields) word are = found (bytes_eq word defined.name) defined.field (field_named fields word) are.0
    (field_ok fields word are.1)

-- one flag
pub flag_ok : (words : List (List ℕ)) → IfOk (flag_operand words) (λ f. f < 16)
flag_ok (word ∷ []) = operand_ok 16 word
flag_ok _ = tt

-- one field
pub one_field_ok : (fields : List NamedField) (words : List (List ℕ)) → AreFields fields
    → IfOk (one_field fields words) IsField
one_field_ok fields (d ∷ []) are = field_ok fields d are
one_field_ok fields _ are = tt

-- two fields
pub two_fields_ok : (fields : List NamedField) (words : List (List ℕ)) → AreFields fields
    → IfOk (two_fields fields words) (λ both. IsField both.0 × IsField both.1)
two_fields_ok fields (d ∷ s ∷ []) are =
    if_ok-then (field_operand fields d) _ IsField _ (field_ok fields d are) (λ d' fd.
    if_ok-then (field_operand fields s) _ IsField _ (field_ok fields s are) (λ s' fs. (fd, fs)))
two_fields_ok fields _ are = tt

-- what `select` says
pub choice_ok : (fields : List NamedField) (words : List (List ℕ)) → AreFields fields
    → IfOk (choice_of fields words) IsSaid
choice_ok fields (d ∷ s ∷ f ∷ []) are =
    if_ok-then (field_operand fields d) _ IsField _ (field_ok fields d are) (λ d' fd.
    if_ok-then (field_operand fields s) _ IsField _ (field_ok fields s are) (λ s' fs.
    if_ok-then (operand_of 16 f) _ (λ n. n < 16) _ (operand_ok 16 f) (λ f' small. ((fd, fs), small))))
choice_ok fields _ are = tt

-- what `const` says
pub constant_ok : (fields : List NamedField) (words : List (List ℕ)) → AreFields fields
    → IfOk (constant_of fields words) IsSaid
constant_ok fields (d ∷ v ∷ []) are =
    if_ok-then (field_operand fields d) _ IsField _ (field_ok fields d are) (λ d' fd.
    if_ok-then (number_operand v) _ (λ n. Unit {0}) _ (any_ok (number_operand v)) (λ v' any. (fd, tt)))
constant_ok fields _ are = tt

-- what `mul` says
pub product_ok : (fields : List NamedField) (words : List (List ℕ)) → AreFields fields
    → IfOk (product_of fields words) IsSaid
product_ok fields (d ∷ x ∷ y ∷ []) are =
    if_ok-then (field_operand fields d) _ IsField _ (field_ok fields d are) (λ d' fd.
    if_ok-then (field_operand fields x) _ IsField _ (field_ok fields x are) (λ x' fx.
    if_ok-then (field_operand fields y) _ IsField _ (field_ok fields y are) (λ y' fy. ((fd, fx, fy), tt))))
product_ok fields _ are = tt

-- what `nano` says
pub nano_ok : (words : List (List ℕ)) → IfOk (nano_of words) IsInstruction
nano_ok (a ∷ b ∷ read ∷ write ∷ cond ∷ sense ∷ mem ∷ flag ∷ dir ∷ []) =
    if_ok-then (operand_of 4096 a) _ (λ n. n < 4096) _ (operand_ok 4096 a) (λ a' la.
    if_ok-then (operand_of 4096 b) _ (λ n. n < 4096) _ (operand_ok 4096 b) (λ b' lb.
    if_ok-then (operand_of 16 read) _ (λ n. n < 16) _ (operand_ok 16 read) (λ read' lr.
    if_ok-then (operand_of 16 write) _ (λ n. n < 16) _ (operand_ok 16 write) (λ write' lw.
    if_ok-then (operand_of 16 cond) _ (λ n. n < 16) _ (operand_ok 16 cond) (λ cond' lc.
    if_ok-then (sense_operand sense) _ (λ s. Unit {0}) _ (any_ok (sense_operand sense)) (λ sense' any.
    if_ok-then (operand_of 256 mem) _ (λ n. n < 256) _ (operand_ok 256 mem) (λ mem' lm.
    if_ok-then (operand_of 256 flag) _ (λ n. n < 256) _ (operand_ok 256 flag) (λ flag' lf.
    if_ok-then (direction_of dir) _ (λ d. Unit {0}) _ (any_ok (direction_of dir)) (λ dir' way.
    record { a = la; b = lb; read = lr; write = lw; cond = lc; mem_table = lm; flag_table = lf })))))))))
nano_ok _ = tt
