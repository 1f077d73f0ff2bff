use Rattle.std.proofs.Common.{◌≡◌, ℕ, Ok, Err, Result, List, ◌++◌, ◌∷◌, [], sym, ap, ◌∙◌}
use Rattle.cm_bits.specs.Text.{words_left}
use Rattle.cm_language.specs.declared.fault.AsmKind.{AsmKind}
use Rattle.cm_language.specs.Lines.{◌>>=◌, number_operand}
use Rattle.lab_front.specs.ForAll.{with_numbers}
use Rattle.lab_front.proofs.for_all.push_values.Goals as goal

-- a word more
one_word : (numbers : List ℕ) (word : List ℕ) (words : List (List ℕ)) (r : Result ℕ AsmKind) → number_operand word ≡ r
    → with_numbers numbers (word ∷ words) ≡ (r >>= λ number. with_numbers (numbers ++ number ∷ []) words)
unfolding with_numbers
one_word numbers word words r is =
    ap (λ (q : Result ℕ AsmKind). q >>= λ number. with_numbers (numbers ++ number ∷ []) words) is

pub loop-word-preserved : goal.loop-word-preserved
loop-word-preserved c =
    let left = words_left c.next.new.self in
    ap (λ (xs : List ℕ). with_numbers xs left) c.in-Ok-push.ensures.items
    ∙ sym (one_word c.loop-word.numbers.items c.in-Some.word.now left (Ok c.in-Ok.number)
    (sym c.in-Ok.ensures.value))
    ∙ (rw c.in-Some.ensures.steps at c.loop-word.invariant)

pub returns-in-Err-clause-err : goal.returns-in-Err-clause-err
returns-in-Err-clause-err c = λ other.
    sym (rw c.in-Some.ensures.steps at c.loop-word.invariant)
    ∙ one_word c.loop-word.numbers.items c.in-Some.word.now (words_left c.next.new.self) (Err c.in-Err.kind)
    (sym c.in-Err.ensures.value)

pub returns-clause-ok : goal.returns-clause-ok
unfolding with_numbers
returns-clause-ok c = sym (rw c.in-None.ensures.steps.0 at c.loop-word.invariant)
