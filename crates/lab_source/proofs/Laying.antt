-- Lines that are laid out, one after another.
use Rattle.std.proofs.Common.{◌≡◌, ℕ, zero, suc, ◌+◌, ◌*◌, ◌≤◌, Bool, true, false, Result, Ok, Err, List, ◌∷◌, ◌++◌}
use Rattle.std.specs.Prelude.{IsTrue, ◌↔◌, IfOk, IfErr}
use Rattle.std.proofs.Common.{◌<◌, length, nat_lt, sym, ap, ◌∙◌, arith, append_assoc, append-nil, length-append}
use Rattle.std.proofs.lemmas.Bool.Decides.{nat_tests}
use Rattle.cm_bits.specs.Text.{words_of}
use Rattle.lab_source.specs.declared.fault.SourceKind.{SourceKind}
use Rattle.lab_source.specs.Layout.{Layout, MOST_LINES, times, layout_after_words, layout_after_lines, unless_faulty_at}

-- ---- lines that are repeated

-- once more
pub times_more : (count : ℕ) (places : List ℕ) → times (count + 1) places ≡ times count places ++ places
times_more zero places = append-nil places
times_more (suc count) places =
    let e : suc count + 1 ≡ suc (count + 1) = omega arith in
    ap (λ (k : ℕ). times k places) e ∙ ap (λ (rest : List ℕ). places ++ rest) (times_more count places)
    ∙ sym (append_assoc places (times count places) places)

-- and behind others
pub more_behind : (before places now next : List ℕ) (count : ℕ) → now ≡ before ++ times count places
    → next ≡ now ++ places → next ≡ before ++ times (count + 1) places
more_behind before places now next count is grown =
    grown ∙ ap (λ (front : List ℕ). front ++ places) is ∙ append_assoc before (times count places) places
    ∙ ap (λ (rest : List ℕ). before ++ rest) (sym (times_more count places))

pub length-times : (count : ℕ) (places : List ℕ) → length (times count places) ≡ count * length places
length-times zero places = omega arith
length-times (suc count) places =
    omega (
      arith,
      length-append places (times count places),
      length-times count places,
      (let e : suc count * length places ≡ length places + count * length places = omega arith in e),
    )

-- how many lines that makes
pub many : (before places : List ℕ) (count : ℕ)
    → length (before ++ times count places) ≡ length before + count * length places
many before places count =
    length-append before (times count places) ∙ ap (λ (k : ℕ). length before + k) (length-times count places)

-- ---- one line more

pub one_line : (laid : Layout) (place : ℕ) (line : List ℕ) (lines : List (List ℕ)) (q : Result Layout SourceKind)
    → layout_after_words laid place (words_of line) ≡ q
    → layout_after_lines laid place (line ∷ lines) ≡ unless_faulty_at place q (λ next. layout_after_lines next (place + 1) lines)
unfolding layout_after_lines
one_line laid place line lines q e =
    ap (λ (r : Result Layout SourceKind). unless_faulty_at place r (λ next. layout_after_lines next (place + 1) lines)) e

-- a test that failed tells that they are too many
pub too_many : (before places : List ℕ) (count : ℕ) (b : Bool) (n : ℕ) → n ≡ length before
    → IsTrue b ↔ (n + count * length places ≤ 65535) → b ≡ false
    → nat_lt MOST_LINES (length (before ++ times count places)) ≡ true
too_many before places count b n same test failed =
    let more : 65535 < n + count * length places = grind (arith, nat_tests, test, failed) in
    let all : length (before ++ times count places) ≡ n + count * length places =
    many before places count ∙ ap (λ (k : ℕ). k + count * length places) (sym same) in
    grind (arith, nat_tests, more, all)

-- ---- what an answer tells

pub told_ok : {T E : Type 0} (q r : Result T E) → q ≡ r → IfOk r (λ x. q ≡ Ok x)
told_ok q (Ok x) e = e
told_ok q (Err x) e = tt

pub told_err : {T E : Type 0} (q r : Result T E) (P : E → Type 0) → q ≡ r → IfErr r (λ x. P x → q ≡ Err x)
told_err q (Ok x) P e = tt
told_err q (Err x) P e = λ h. e

-- a test that held tells that they are not
pub few_enough : (before places : List ℕ) (count : ℕ) (b : Bool) (n : ℕ) → n ≡ length before
    → IsTrue b ↔ (n + count * length places ≤ 65535) → b ≡ true
    → nat_lt MOST_LINES (length (before ++ times count places)) ≡ false
few_enough before places count b n same test held =
    let fits : n + count * length places ≤ 65535 = grind (arith, nat_tests, test, held) in
    let all : length (before ++ times count places) ≡ n + count * length places =
    many before places count ∙ ap (λ (k : ℕ). k + count * length places) (sym same) in
    grind (arith, nat_tests, fits, all)
