-- Chips in a list that others take the places of, from a place on.
use Rattle.std.proofs.Common.{◌≡◌, ℕ, suc, ◌+◌, ◌<◌, ◌++◌, List, [], ◌∷◌, sym, ap, ◌∙◌, arith, take, drop, length}
use Rattle.std.proofs.Common.{get_or, set, append_assoc, length-append, length-drop, drop-cons}
use Rattle.std.proofs.lemmas.List.{length_push, length-take, length-take-le, set_at}
use Rattle.cm_model.specs.Processor.{Processor}
use Rattle.cm_model.specs.Array.{Chips}
use Rattle.cm_element.specs.Near.{with_near}

-- where there are places behind them, these are the list's own
pub near_within : (far near : Chips) (first count : ℕ) → length (with_near far near first) ≡ count
    → first + length near < count → first + length near < length far
unfolding with_near
near_within far near first count long h =
    omega (
      arith,
      h,
      long,
      length-append (take first far) (near ++ drop (first + length near) far),
      length-append near (drop (first + length near) far),
      length-take first far,
      length-drop (first + length near) far,
    )

-- one chip more stands behind the others
pub near_more : (far near : Chips) (x : List Processor) (first : ℕ) → first + length near < length far
    → with_near far (near ++ x ∷ []) first ≡ set (with_near far near first) (first + length near) x
unfolding with_near
near_more far near x first h =
    let k : ℕ = first + length near in
    let front : Chips = take first far ++ near in
    let past : first + length (near ++ x ∷ []) ≡ suc k = omega (arith, length_push near x) in
    let long : length front ≡ k = omega (
      arith,
      length-append (take first far) near,
      length-take-le first far (omega (arith, h)),
    ) in
    ap (λ (n : ℕ). take first far ++ ((near ++ x ∷ []) ++ drop n far)) past
    ∙ ap (λ (xs : Chips). take first far ++ xs) (append_assoc near (x ∷ []) (drop (suc k) far))
    ∙ sym (append_assoc (take first far) near (x ∷ drop (suc k) far))
    ∙ sym (set_at front (get_or far k []) (drop (suc k) far) x k long)
    ∙ ap (λ (xs : Chips). set xs k x) (ap (λ (xs : Chips). front ++ xs) (sym (drop-cons far k [] h))
    ∙ append_assoc (take first far) near (drop k far))
