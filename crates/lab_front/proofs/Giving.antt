-- The numbers of a line that puts some: one for each processor, each within the bits of a field.
use Rattle.std.proofs.Common.{◌≡◌, ℕ, ◌+◌, ◌^◌, ◌<◌, ◌≤◌, ◌==◌, Bool, true, false, ◌||◌, nat_lt, if◌then◌else◌, IfOk}
use Rattle.std.proofs.Common.{Option, Some, None, Result, Ok, Err, List, [], ◌∷◌, ◌++◌, length, codes, bytes_eq}
use Rattle.std.proofs.Common.{refl, sym, ◌∙◌, subst, arith, length-append}
use Rattle.std.proofs.Common.{get_or, ⊎_elim}
use Rattle.std.proofs.lemmas.Bool.{cases_Bool, false≢true, ltb-true, ltb-false, eqb-true}
use Rattle.std.proofs.lemmas.List.Elements.{All-from_get_or}
use Rattle.std.proofs.lemmas.List.Folds.{list_all_at}
use Rattle.std.specs.List.{All}
use Rattle.cm_bits.specs.Span.{Span}
use Rattle.cm_bits.specs.Field.{field_fault}
use Rattle.cm_bits.specs.declared.field.FieldFault.{FieldFault}
use Rattle.cm_bits.specs.declared.field.FieldFault.TheVariants as field
use Rattle.cm_language.specs.declared.fault.AsmKind.{AsmKind}
use Rattle.cm_language.specs.declared.fault.AsmKind.TheVariants.{Operands, Lengths, Word}
use Rattle.cm_language.specs.Lines.{◌>>=◌, number_operand, field_unless}
use Rattle.lab_data.specs.Data.{processors}
use Rattle.lab_front.specs.declared.for_all.Asked.{Asked}
use Rattle.lab_front.specs.declared.for_all.Asked.TheVariants.{Get, GetFlag, GetBuffers, Put, Standing, Clock, Image}
use Rattle.lab_front.specs.declared.for_all.Asked.TheVariants.{Forget}
use Rattle.lab_front.specs.ForAll.{in_range, asked_field, with_numbers, within, asked_alone, get_of_two, get_of_flag}
use Rattle.lab_front.specs.ForAll.{get_of, put_into, put_words, put_of, asked_by, bare, asked_of}
use Rattle.lab_front.specs.ForAll.{AreFor}

-- ---- steps

-- a step that was right is followed rightly
bound : {A B : Type 0} (P : A → Type 0) (Q : B → Type 0) (x : Result A AsmKind) (f : A → Result B AsmKind) → IfOk x P
    → ((a : A) → P a → IfOk (f a) Q) → IfOk (x >>= f) Q
bound P Q (Ok a) f right goes = goes a right
bound P Q (Err kind) f right goes = tt

any : {A : Type 0} (x : Result A AsmKind) → IfOk x (λ a. Unit {0})
any (Ok a) = tt
any (Err kind) = tt

-- ---- a field

-- a field ends below bit 4096
abbrev Ends : Span → Type 0
Ends bits = bits.at + bits.len ≤ 4096

not_above : (limit x : ℕ) → nat_lt limit x ≡ false → x ≤ limit
not_above limit x h = ltb-false limit x h

is_below : (x limit : ℕ) → nat_lt x limit ≡ true → x < limit
is_below x limit h = ltb-true x limit h

is_same : (x y : ℕ) → (x == y) ≡ true → x ≡ y
is_same x y h = eqb-true x y h

ends : (at len : ℕ) → field_fault at len ≡ None → at + len ≤ 4096
ends at len none = by (len == 0 || nat_lt 64 len) (nat_lt 4096 (at + len)) refl none where
  by : (a b : Bool) → nat_lt 4096 (at + len) ≡ b
      → (if a then Some field.Width else (if b then Some field.Range else None)) ≡ None → at + len ≤ 4096
  by true b is apart = absurd (let f : Some field.Width ≡ None = apart in cc)
  by false true is apart = absurd (let f : Some field.Range ≡ None = apart in cc)
  by false false is apart = not_above 4096 (at + len) is

field_ends : (at len : ℕ) → IfOk (asked_field at len) Ends
field_ends at len =
    bound (λ a. Unit {0}) Ends (in_range 4096 at) _ (any (in_range 4096 at)) (λ a right. by a (field_fault a len) refl)
  where
    by : (a : ℕ) (o : Option FieldFault) → field_fault a len ≡ o → IfOk (field_unless a len o) Ends
    by a (Some fault) is = tt
    by a None is = ends a len is

-- ---- numbers

-- as many as words
counted : (numbers : List ℕ) (words : List (List ℕ))
    → IfOk (with_numbers numbers words) (λ all. length all ≡ length numbers + length words)
unfolding with_numbers
counted numbers [] = omega arith
counted numbers (word ∷ words) =
    bound (λ x. Unit {0}) (λ all. length all ≡ length numbers + length (word ∷ words)) (number_operand word) _
    (any (number_operand word))
    (λ x right. longer (with_numbers (numbers ++ x ∷ []) words) (counted (numbers ++ x ∷ []) words)
    (omega (arith, length-append numbers (x ∷ []))))
  where
    longer : {a b : ℕ} (q : Result (List ℕ) AsmKind) → IfOk q (λ all. length all ≡ a) → a ≡ b
        → IfOk q (λ all. length all ≡ b)
    longer (Ok all) is same = is ∙ same
    longer (Err kind) is same = tt

each_within : (len : ℕ) (numbers : List ℕ) (k : ℕ) → k < length numbers → within len numbers ≡ true
    → nat_lt (get_or numbers k 0) (2 ^ len) ≡ true
each_within len numbers k inside is =
    ⊎_elim
    (λ (e : nat_lt (get_or numbers k 0) (2 ^ len) ≡ true). e)
    (λ (e : nat_lt (get_or numbers k 0) (2 ^ len) ≡ false).
    absurd (false≢true (sym (list_all_at (λ x. nat_lt x (2 ^ len)) numbers k 0 inside e) ∙ is)))
    (cases_Bool (nat_lt (get_or numbers k 0) (2 ^ len)))

all_within : (len : ℕ) (numbers : List ℕ) → within len numbers ≡ true → All (λ x. x < 2 ^ len) numbers
all_within len numbers is =
    All-from_get_or (λ x. x < 2 ^ len) numbers 0
    (λ k inside. is_below (get_or numbers k 0) (2 ^ len) (each_within len numbers k inside is))

-- ---- a line

-- what is put is right: there is such a field, and a number for each processor that has apart more bits
pub record IsGiven (n : ℕ) (bits : Span) (numbers : List ℕ) : Type 0 where
  pub end : bits.at + bits.len ≤ 4096
  pub count : length numbers ≡ processors n
  pub small : All (λ x. x < 2 ^ bits.len) numbers

abbrev pub IsRight : ℕ → Asked → List ℕ → Type 0
IsRight n (Put bits) numbers = IsGiven n bits numbers
IsRight n _ numbers = Unit {0}

-- what is apart put
abbrev IsNoPut : Asked → Type 0
IsNoPut (Put bits) = ⊥
IsNoPut _ = Unit {0}

none_given : (n : ℕ) (it : Asked) → IsNoPut it → IsRight n it []
none_given n (Get bits) apart = tt
none_given n (GetFlag number) apart = tt
none_given n GetBuffers apart = tt
none_given n (Put bits) apart = absurd apart
none_given n Standing apart = tt
none_given n Clock apart = tt
none_given n Image apart = tt
none_given n Forget apart = tt

-- a right answer
abbrev IsRightly : ℕ → Asked × List ℕ → Type 0
IsRightly n it = IsRight n it.0 it.1

abbrev Rightly : ℕ → Result (Asked × List ℕ) AsmKind → Type 0
Rightly n q = IfOk q (IsRightly n)

bare_right : (n : ℕ) (q : Result Asked AsmKind) → IfOk q IsNoPut → Rightly n (bare q)
bare_right n (Ok it) apart = none_given n it apart
bare_right n (Err kind) apart = tt

alone_no : (it : Asked) (operands : List (List ℕ)) → IsNoPut it → IfOk (asked_alone it operands) IsNoPut
alone_no it [] apart = apart
alone_no it (word ∷ words) apart = tt

flag_no : (flag : List ℕ) → IfOk (get_of_flag flag) IsNoPut
flag_no flag =
    bound (λ x. Unit {0}) IsNoPut (number_operand flag) _ (any (number_operand flag))
    (λ x right. bound (λ y. Unit {0}) IsNoPut (in_range 16 x) _ (any (in_range 16 x)) (λ y right. tt))

two_no : (at len : List ℕ) → IfOk (get_of_two at len) IsNoPut
two_no at len =
    bound (λ x. Unit {0}) IsNoPut (number_operand at) _ (any (number_operand at))
    (λ x right. bound (λ y. Unit {0}) IsNoPut (number_operand len) _ (any (number_operand len))
    (λ y right. bound (λ bits. Unit {0}) IsNoPut (asked_field x y) _ (any (asked_field x y)) (λ bits right. tt)))

either : {A : Type 0} (P : A → Type 0) (b : Bool) (x y : Result A AsmKind) → IfOk x P → IfOk y P
    → IfOk (if b then x else y) P
either P true x y one other = one
either P false x y one other = other

get_no : (operands : List (List ℕ)) → IfOk (get_of operands) IsNoPut
get_no [] = tt
get_no (what ∷ []) = either IsNoPut (bytes_eq what (codes "buffers")) (Ok GetBuffers) (Err Operands) tt tt
get_no (first ∷ second ∷ []) =
    either IsNoPut (bytes_eq first (codes "flag")) (get_of_flag second) (get_of_two first second) (flag_no second)
    (two_no first second)
get_no (first ∷ second ∷ third ∷ more) = tt

-- numbers into a field
abbrev given : Span → List ℕ → Result (Asked × List ℕ) AsmKind
given bits numbers = Ok (Put bits, numbers)

put_into_right : (n at len : ℕ) (numbers : List ℕ) → length numbers ≡ processors n
    → Rightly n (put_into at len numbers)
put_into_right n at len numbers count =
    bound Ends (IsRightly n) (asked_field at len) _ (field_ends at len)
    (λ bits end. by bits end (within bits.len numbers) refl)
  where
    by : (bits : Span) → Ends bits → (b : Bool) → within bits.len numbers ≡ b
        → Rightly n (if b then given bits numbers else Err Lengths)
    by bits end true is = record { end = end; count = count; small = all_within bits.len numbers is }
    by bits end false is = tt

words_right : (n : ℕ) (operands : List (List ℕ)) → length operands ≡ processors n + 2
    → Rightly n (put_words operands)
words_right n [] count = tt
words_right n (at ∷ []) count = tt
words_right n (at ∷ len ∷ values) count =
    bound (λ x. Unit {0}) (IsRightly n) (number_operand at) _ (any (number_operand at))
    (λ at' right. bound (λ x. Unit {0}) (IsRightly n) (number_operand len) _ (any (number_operand len))
    (λ len' right. bound (λ all. length all ≡ 0 + length values) (IsRightly n)
    (with_numbers [] values) _ (counted [] values)
    (λ numbers long. put_into_right n at' len' numbers (omega (arith, long, count)))))

put_right : (n : ℕ) (operands : List (List ℕ)) → Rightly n (put_of n operands)
put_right n operands = by (length operands == processors n + 2) refl where
  by : (b : Bool) → (length operands == processors n + 2) ≡ b
      → Rightly n (if b then put_words operands else Err Operands)
  by true is = words_right n operands (is_same (length operands) (processors n + 2) is)
  by false is = tt

asked_no : (word : List ℕ) (operands : List (List ℕ)) → IfOk (asked_by word operands) IsNoPut
asked_no word operands =
    either IsNoPut (bytes_eq word (codes "get")) (get_of operands) _ (get_no operands)
    (either IsNoPut (bytes_eq word (codes "standing")) (asked_alone Standing operands) _ (alone_no Standing operands tt)
    (either IsNoPut (bytes_eq word (codes "clock")) (asked_alone Clock operands) _ (alone_no Clock operands tt)
    (either IsNoPut (bytes_eq word (codes "image")) (asked_alone Image operands) _ (alone_no Image operands tt)
    (either IsNoPut (bytes_eq word (codes "forget")) (asked_alone Forget operands) (Err Word) (alone_no Forget operands tt)
    tt))))

right_of : (n : ℕ) (words : List (List ℕ)) → Rightly n (asked_of n words)
right_of n [] = tt
right_of n (word ∷ operands) =
    either (IsRightly n) (bytes_eq word (codes "put")) (put_of n operands) (bare (asked_by word operands))
    (put_right n operands) (bare_right n (asked_by word operands) (asked_no word operands))

-- what a line asks for is right
pub right : (n : ℕ) (words : List (List ℕ)) (it : Asked) (numbers : List ℕ) → asked_of n words ≡ Ok (it, numbers)
    → IsRight n it numbers
right n words it numbers is = subst (Rightly n) is (right_of n words)

pub are_for : (n : ℕ) (words : List (List ℕ)) (it : Asked) (numbers : List ℕ) → asked_of n words ≡ Ok (it, numbers)
    → AreFor n it numbers
are_for n words it numbers is = by it (right n words it numbers is) where
  by : (it : Asked) → IsRight n it numbers → AreFor n it numbers
  by (Get bits) so = tt
  by (GetFlag number) so = tt
  by GetBuffers so = tt
  by (Put bits) so = so.count
  by Standing so = tt
  by Clock so = tt
  by Image so = tt
  by Forget so = tt
