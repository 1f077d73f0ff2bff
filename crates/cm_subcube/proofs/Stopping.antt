-- Steps until a round: all of them where none is a round, and what a petit cycle has before its first.
use Rattle.std.proofs.Common.{◌≡◌, ℕ, zero, suc, ◌+◌, ◌-◌, ◌<◌, ◌≤◌, true, false, List, [], ◌∷◌}
use Rattle.std.proofs.Common.{◌++◌}
use Rattle.std.proofs.Common.{map, refl, sym, ◌∙◌, ap, ⊎_elim, arith}
use Rattle.std.specs.Prelude.{nat_le}
use Rattle.std.specs.List.{range_with_len}
use Rattle.std.proofs.lemmas.Bool.{cases_Bool}
use Rattle.std.proofs.lemmas.Bool.Decides.{nat_tests}
use Rattle.std.proofs.lemmas.List.{append-nil, append_assoc}
use Rattle.cm_model.specs.declared.act.Act.TheVariants as act
use Rattle.cm_model.specs.Steps.{Step, Inject, Cross, Deliver, steps_of}
use Rattle.cm_blocks.specs.Rounds.{until_round}
use Rattle.cm_subcube.specs.Local.{is_through}

-- ---- two lists of steps

-- where the first has no round, it is gone through, and then the second until its round
pub until_round-through : (n k : ℕ) (xs ys : List Step) → is_through n k xs ≡ true
    → until_round n k (xs ++ ys) ≡ xs ++ until_round n k ys
until_round-through n k [] ys h = refl
until_round-through n k (x ∷ xs) ys h = grind (arith, until_round-through n k xs ys)

-- and where it has one, until that
pub until_round-stopped : (n k : ℕ) (xs ys : List Step) → is_through n k xs ≡ false
    → until_round n k (xs ++ ys) ≡ until_round n k xs
until_round-stopped n k [] ys h = absurd (grind arith)
until_round-stopped n k (x ∷ xs) ys h = grind (arith, until_round-stopped n k xs ys)

-- steps without a round are gone through
pub until_round-all : (n k : ℕ) (xs : List Step) → is_through n k xs ≡ true → until_round n k xs ≡ xs
until_round-all n k xs h =
    ap (until_round n k) (sym (append-nil xs)) ∙ until_round-through n k xs [] h ∙ append-nil xs

-- what stands before a round of both begins with what stands before one of the first
pub begins : (n k : ℕ) (xs ys : List Step)
    → (rest : List Step) × (until_round n k (xs ++ ys) ≡ until_round n k xs ++ rest)
begins n k xs ys =
    ⊎_elim
    (λ (e : is_through n k xs ≡ true). (
      until_round n k ys,
      until_round-through n k xs ys e ∙ ap (λ z. z ++ until_round n k ys) (sym (until_round-all n k xs e)),
    ))
    (λ (e : is_through n k xs ≡ false). ([], until_round-stopped n k xs ys e ∙ sym (append-nil (until_round n k xs))))
    (cases_Bool (is_through n k xs))

is_through-append : (n k : ℕ) (xs ys : List Step) → is_through n k xs ≡ true → is_through n k ys ≡ true
    → is_through n k (xs ++ ys) ≡ true
is_through-append n k [] ys h l = l
is_through-append n k (x ∷ xs) ys h l = grind (arith, is_through-append n k xs ys)

-- ---- a petit cycle

-- dimensions below those of rounds
pub crossings_low : (n k d count : ℕ) → d + count ≤ n - k → is_through n k (map Cross (range_with_len d count)) ≡ true
crossings_low n k d zero h = refl
crossings_low n k d (suc count) h =
    let low : nat_le (n - k) d ≡ false = grind (arith, nat_tests) in
    rw low (crossings_low n k (d + 1) count (omega arith))

-- those of rounds
crossings_high : (n k d count : ℕ) (ys : List Step) → n - k ≤ d → 0 < count
    → (until_round n k (map Cross (range_with_len d count) ++ ys) ≡ [])
    × (is_through n k (map Cross (range_with_len d count) ++ ys) ≡ false)
crossings_high n k d zero ys h some = absurd (omega (arith, some))
crossings_high n k d (suc count) ys h some =
    let high : nat_le (n - k) d ≡ true = grind (arith, nat_tests) in
    (rw high refl, rw high refl)

-- all are those below and those of rounds
crossings_split : (n k : ℕ) → k ≤ n → map Cross (range_with_len 0 n) ++ Deliver ∷ []
    ≡ map Cross (range_with_len 0 (n - k)) ++ (map Cross (range_with_len (n - k) k) ++ Deliver ∷ [])
crossings_split n k h =
    ap (λ (z : ℕ). map Cross (range_with_len 0 z) ++ Deliver ∷ []) (let e : n ≡ n - k + k = omega (arith, h) in e)
    ∙ ap (λ z. z ++ Deliver ∷ []) (crossings-append 0 (n - k) k
    ∙ ap (λ (z : ℕ). map Cross (range_with_len 0 (n - k)) ++ map Cross (range_with_len z k))
    (let e : 0 + (n - k) ≡ n - k = omega arith in e))
    ∙ append_assoc (map Cross (range_with_len 0 (n - k))) (map Cross (range_with_len (n - k) k)) (Deliver ∷ [])
  where
    crossings-append : (from first second : ℕ) → map Cross (range_with_len from (first + second))
        ≡ map Cross (range_with_len from first) ++ map Cross (range_with_len (from + first) second)
    crossings-append from zero second =
        ap (λ (z : ℕ). map Cross (range_with_len from z)) (let e : zero + second ≡ second = omega arith in e)
        ∙ ap (λ (z : ℕ). map Cross (range_with_len z second)) (let e : from ≡ from + zero = omega arith in e)
    crossings-append from (suc first) second =
        ap (λ (z : ℕ). map Cross (range_with_len from z))
        (let e : suc first + second ≡ suc (first + second) = omega arith in e)
        ∙ ap (λ z. Cross from ∷ z) (crossings-append (from + 1) first second
        ∙ ap (λ (z : ℕ). map Cross (range_with_len (from + 1) first) ++ map Cross (range_with_len z second))
        (let e : from + 1 + first ≡ from + suc first = omega arith in e))

-- what a petit cycle has before its first round, if it has one
pub record IsStoppedAt (n k : ℕ) : Type 0 where
  pub steps : until_round n k (steps_of n act.Cycle) ≡ (Inject ∷ []) ++ map Cross (range_with_len 0 (n - k))
  pub through : is_through n k (steps_of n act.Cycle) ≡ false

pub cycle_stops : (n k : ℕ) → k ≤ n → 0 < k → IsStoppedAt n k
cycle_stops n k h some =
    let low : List Step = map Cross (range_with_len 0 (n - k)) in
    let high : List Step = map Cross (range_with_len (n - k) k) ++ Deliver ∷ [] in
    let under : is_through n k low ≡ true = crossings_low n k 0 (n - k) (omega arith) in
    let over = crossings_high n k (n - k) k (Deliver ∷ []) (omega arith) some in
    record {
      steps = ap (λ z. Inject ∷ until_round n k z) (crossings_split n k h)
          ∙ ap (λ z. Inject ∷ z) (until_round-through n k low high under
          ∙ ap (λ z. low ++ z) over.0 ∙ append-nil low);
      through = ap (is_through n k) (crossings_split n k h) ∙ not_through n k low high over.1;
    }
  where
    not_through : (n k : ℕ) (xs ys : List Step) → is_through n k ys ≡ false → is_through n k (xs ++ ys) ≡ false
    not_through n k [] ys e = e
    not_through n k (x ∷ xs) ys e = grind (arith, not_through n k xs ys)

-- where the machine is not cut, it has none
pub record IsGoneThrough (n k : ℕ) : Type 0 where
  pub steps : until_round n k (steps_of n act.Cycle)
      ≡ ((Inject ∷ []) ++ map Cross (range_with_len 0 (n - k))) ++ Deliver ∷ []
  pub through : is_through n k (steps_of n act.Cycle) ≡ true

pub cycle_goes_through : (n k : ℕ) → k ≡ 0 → IsGoneThrough n k
cycle_goes_through n k none =
    let all : n - k ≡ n = omega (arith, none) in
    let under : is_through n k (map Cross (range_with_len 0 n)) ≡ true = crossings_low n k 0 n (omega (arith, all)) in
    let through : is_through n k (steps_of n act.Cycle) ≡ true =
    is_through-append n k (map Cross (range_with_len 0 n)) (Deliver ∷ []) under refl in
    record {
      steps = until_round-all n k (steps_of n act.Cycle) through
          ∙ ap (λ (z : ℕ). Inject ∷ (map Cross (range_with_len 0 z) ++ Deliver ∷ [])) (sym all);
      through = through;
    }
