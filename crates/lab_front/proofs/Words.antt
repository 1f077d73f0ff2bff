-- The words of lines for all processors: no program and no session has them.
use Rattle.std.proofs.Common.{◌≡◌, ℕ, Bool, true, false, ◌||◌, if◌then◌else◌, Some, Ok, Err}
use Rattle.std.proofs.Common.{List, [], ◌∷◌, codes, bytes_eq, refl, sym, ap, ◌∙◌, subst, ⊎_elim}
use Rattle.std.proofs.lemmas.Bool.{cases_Bool, false≢true}
use Rattle.std.proofs.lemmas.Slice.Eq.{bytes_eq-Decides}
use Rattle.cm_language.specs.declared.fault.AsmKind.TheVariants as kind
use Rattle.cm_session.specs.declared.command.Command.{Command}
use Rattle.cm_session.specs.declared.command.Refusal.TheVariants.{Word}
use Rattle.lab_front.specs.declared.for_all.Asked.{Asked}
use Rattle.lab_front.specs.declared.for_all.Asked.TheVariants.{Standing, Clock, Image, Forget}
use Rattle.lab_front.specs.Asked.{is_of_program, question_of}
use Rattle.lab_front.specs.ForAll.{is_for_all, asked_of, asked_by, bare, get_of, put_of, asked_alone}

or_elim : {C : Type 0} (a b : Bool) → (a || b) ≡ true → (a ≡ true → C) → (b ≡ true → C) → C
or_elim true b is one other = one refl
or_elim false b is one other = other is

at_word : (P : List ℕ → Type 0) (word name : List ℕ) → bytes_eq word name ≡ true → P name → P word
at_word P word name is there = subst P (sym ((bytes_eq-Decides word name).0 is)) there

-- the word is one of the first two, three, four, five
abbrev until_put : List ℕ → Bool
until_put word = bytes_eq word (codes "get") || bytes_eq word (codes "put")

abbrev until_standing : List ℕ → Bool
until_standing word = until_put word || bytes_eq word (codes "standing")

abbrev until_clock : List ℕ → Bool
until_clock word = until_standing word || bytes_eq word (codes "clock")

abbrev until_image : List ℕ → Bool
until_image word = until_clock word || bytes_eq word (codes "image")

-- what holds of each of the words
of_each : (P : List ℕ → Type 0) (word : List ℕ) (operands : List (List ℕ)) → is_for_all (word ∷ operands) ≡ true
    → P (codes "get") → P (codes "put") → P (codes "standing") → P (codes "clock") → P (codes "image")
    → P (codes "forget") → P word
of_each P word operands is get put standing clock image forget =
    or_elim (until_image word) (bytes_eq word (codes "forget")) is
    (λ five. or_elim (until_clock word) (bytes_eq word (codes "image")) five
    (λ four. or_elim (until_standing word) (bytes_eq word (codes "clock")) four
    (λ three. or_elim (until_put word) (bytes_eq word (codes "standing")) three
    (λ two. or_elim (bytes_eq word (codes "get")) (bytes_eq word (codes "put")) two
    (λ e. at_word P word (codes "get") e get)
    (λ e. at_word P word (codes "put") e put))
    (λ e. at_word P word (codes "standing") e standing))
    (λ e. at_word P word (codes "clock") e clock))
    (λ e. at_word P word (codes "image") e image))
    (λ e. at_word P word (codes "forget") e forget)

pub no_program : (words : List (List ℕ)) → is_for_all words ≡ true → is_of_program words ≡ false
no_program [] is = absurd (false≢true is)
no_program (word ∷ operands) is =
    of_each (λ w. is_of_program (w ∷ operands) ≡ false) word operands is refl refl refl refl refl refl

no_question : (n : ℕ) (words : List (List ℕ)) → is_for_all words ≡ true → question_of n words ≡ Err Word
no_question n [] is = absurd (false≢true is)
no_question n (word ∷ operands) is =
    of_each (λ w. question_of n (w ∷ operands) ≡ Err Word) word operands is refl refl refl refl refl refl

-- a question that a session knows is none for all processors
pub asked_singly : (n : ℕ) (words : List (List ℕ)) (it : Command) → question_of n words ≡ Ok (Some it)
    → is_for_all words ≡ false
asked_singly n words it is =
    ⊎_elim
    (λ (e : is_for_all words ≡ true).
    let both : Err Word ≡ Ok (Some it) = sym (no_question n words e) ∙ is in absurd (let f = both in cc))
    (λ (e : is_for_all words ≡ false). e)
    (cases_Bool (is_for_all words))

-- none of them
or_false : (a b : Bool) → (a || b) ≡ false → (a ≡ false) × (b ≡ false)
or_false true b is = absurd (false≢true (sym is))
or_false false b is = (refl, is)

none_by : {R : Type 0} (a c d e f : Bool) (g i j k l none : R) → a ≡ false → c ≡ false → d ≡ false → e ≡ false
    → f ≡ false
    → (if a then g else (if c then i else (if d then j else (if e then k else (if f then l else none))))) ≡ none
none_by a c d e f g i j k l none a' c' d' e' f' = rw a' (rw c' (rw d' (rw e' (rw f' refl))))

other_word : (n : ℕ) (words : List (List ℕ)) → is_for_all words ≡ false → asked_of n words ≡ Err kind.Word
other_word n [] is = refl
other_word n (word ∷ operands) is =
    let forget = or_false (until_image word) (bytes_eq word (codes "forget")) is in
    let image = or_false (until_clock word) (bytes_eq word (codes "image")) forget.0 in
    let clock = or_false (until_standing word) (bytes_eq word (codes "clock")) image.0 in
    let standing = or_false (until_put word) (bytes_eq word (codes "standing")) clock.0 in
    let two = or_false (bytes_eq word (codes "get")) (bytes_eq word (codes "put")) standing.0 in
    ap (λ (b : Bool). if b then put_of n operands else bare (asked_by word operands)) two.1
    ∙ ap bare (none_by (bytes_eq word (codes "get")) (bytes_eq word (codes "standing")) (bytes_eq word (codes "clock"))
    (bytes_eq word (codes "image")) (bytes_eq word (codes "forget")) (get_of operands) (asked_alone Standing operands)
    (asked_alone Clock operands) (asked_alone Image operands) (asked_alone Forget operands) (Err kind.Word) two.0 standing.1 clock.1
    image.1 forget.1)

-- what is asked of all processors is asked by one of the words
pub asked_of_all : (n : ℕ) (words : List (List ℕ)) (it : Asked × List ℕ) → asked_of n words ≡ Ok it
    → is_for_all words ≡ true
asked_of_all n words it is =
    ⊎_elim
    (λ (e : is_for_all words ≡ true). e)
    (λ (e : is_for_all words ≡ false).
    let both : Err kind.Word ≡ Ok it = sym (other_word n words e) ∙ is in absurd (let f = both in cc))
    (cases_Bool (is_for_all words))
