use Rattle.std.proofs.Common.{◌≡◌, ℕ, zero, suc, ◌<◌, Bool, true, false, eqb, List, [], ◌∷◌, length, get_or, refl, sym, ap, ◌∙◌}
use Rattle.std.proofs.Common.{◌&&◌, ⊎_elim, arith, eqb-true}
use Rattle.std.specs.List.{list_all}
use Rattle.std.proofs.lemmas.Bool.{and_parts, cases_Bool}
use Rattle.cm_model.specs.declared.message.Message.{Message}
use Rattle.lab_load.proofs.quiet.none_stands.Goals as goal

abbrev is_empty : List Message → Bool
is_empty here = eqb (length here) 0

empty_of : (here : List Message) → is_empty here ≡ true → here ≡ []
empty_of [] e = refl
empty_of (m ∷ ms) e = absurd (omega (arith, eqb-true (length (m ∷ ms)) 0 e))

passed : (buffers : List (List Message))
    → ((k : ℕ) (d : List Message) → k < length buffers → get_or buffers k d ≡ []) → list_all is_empty buffers ≡ true
passed [] all = refl
passed (here ∷ others) all =
    ap (λ (ms : List Message). is_empty ms && list_all is_empty others) (all 0 [] (omega arith))
    ∙ passed others (λ k d l. all (suc k) d (omega arith))

passing : (buffers : List (List Message)) → list_all is_empty buffers ≡ true
    → (k : ℕ) (d : List Message) → k < length buffers → get_or buffers k d ≡ []
passing [] e k d l = absurd (omega arith)
passing (here ∷ others) e zero d l = empty_of here (and_parts (is_empty here) (list_all is_empty others) e).0
passing (here ∷ others) e (suc k) d l =
    passing others (and_parts (is_empty here) (list_all is_empty others) e).1 k d (omega arith)

pub returns : goal.returns
returns c =
    let buffers = c.args.crossing.now.buffers in
    let tested = list_all is_empty buffers in
    let answer = c.is_empty.result in
    record {
      value = ⊎_elim
          (λ (t : tested ≡ true). c.is_empty.ensures.none.1 (passing buffers t) ∙ sym t)
          (λ (f : tested ≡ false).
          ⊎_elim
          (λ (t : answer ≡ true). t ∙ sym (passed buffers (c.is_empty.ensures.none.0 t)))
          (λ (no : answer ≡ false). no ∙ sym f)
          (cases_Bool answer))
          (cases_Bool tested);
    }
