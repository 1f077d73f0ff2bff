-- The rounds of a run, act by act.
use Rattle.std.proofs.Common.{◌≡◌, ℕ, zero, suc, ◌+◌, ◌-◌, ◌<◌, ◌≤◌, Bool, true, false, List, [], ◌∷◌, ◌++◌, length}
use Rattle.std.proofs.Common.{get_or, take, map, refl, sym, ap}
use Rattle.std.proofs.Common.{◌∙◌, arith, append_assoc}
use Rattle.std.specs.Prelude.{nat_le}
use Rattle.std.specs.List.{filter, range_with_len}
use Rattle.std.proofs.lemmas.Bool.Decides.{nat_tests}
use Rattle.std.proofs.lemmas.List.{map-append, take_more, length-take-le}
use Rattle.std.proofs.lemmas.List.Elements.{filter-append}
use Rattle.std.proofs.lemmas.List.FromFn.{map-range_with_len_more}
use Rattle.cm_model.specs.declared.act.Act.{Act}
use Rattle.cm_model.specs.declared.act.Act.TheVariants as act
use Rattle.cm_model.specs.Steps.{Cross, Deliver, Phase, phases_of, phases_from}
use Rattle.cm_blocks.specs.Rounds.{is_round}
use Rattle.cm_subcube.specs.Rounds.{round_of, rounds_from, rounds_of, crossing_at}

-- ---- one act after another

phases_from-append : (n at : ℕ) (first second : List Act)
    → phases_from n at (first ++ second) ≡ phases_from n at first ++ phases_from n (at + length first) second
phases_from-append n at [] second = ap (λ (k : ℕ). phases_from n k second) (let e : at ≡ at + 0 = omega arith in e)
phases_from-append n at (one ∷ more) second =
    ap (λ z. phases_of n at one ++ z) (phases_from-append n (at + 1) more second
    ∙ ap (λ (k : ℕ). phases_from n (at + 1) more ++ phases_from n k second)
    (let e : at + 1 + length more ≡ at + length (one ∷ more) = omega arith in e))
    ∙ sym (append_assoc (phases_of n at one) (phases_from n (at + 1) more)
    (phases_from n (at + length (one ∷ more)) second))

rounds_from-append : (n k at : ℕ) (first second : List Act)
    → rounds_from n k at (first ++ second) ≡ rounds_from n k at first ++ rounds_from n k (at + length first) second
rounds_from-append n k at first second =
    let is : Phase → Bool = λ phase. is_round n k phase.step in
    ap (λ run. map round_of (filter is run)) (phases_from-append n at first second)
    ∙ ap (map round_of) (filter-append is (phases_from n at first) (phases_from n (at + length first) second))
    ∙ map-append round_of (filter is (phases_from n at first)) (filter is (phases_from n (at + length first) second))

-- one act more
pub rounds_of-more : (n k i : ℕ) (acts : List Act) (one : Act) → i < length acts → one ≡ get_or acts i one
    → rounds_of n k (take (i + 1) acts) ≡ rounds_of n k (take i acts) ++ rounds_from n k i (one ∷ [])
rounds_of-more n k i acts one l is =
    ap (rounds_of n k) (take_more acts i one l ∙ ap (λ (x : Act). take i acts ++ x ∷ []) (sym is))
    ∙ rounds_from-append n k 0 (take i acts) (one ∷ [])
    ∙ ap (λ (j : ℕ). rounds_of n k (take i acts) ++ rounds_from n k j (one ∷ []))
    (let e : 0 + length (take i acts) ≡ i = omega (arith, length-take-le i acts (omega (arith, l))) in e)

-- ---- a petit cycle

-- of the numbers from one on, those not below another
all_from : (a s count : ℕ) → a ≤ s → filter (nat_le a) (range_with_len s count) ≡ range_with_len s count
all_from a s zero h = refl
all_from a s (suc count) h =
    let e : nat_le a s ≡ true = grind (arith, nat_tests) in
    rw e (ap (λ z. s ∷ z) (all_from a (s + 1) count (omega arith)))

some_from : (a s before count : ℕ) → s + before ≡ a
    → filter (nat_le a) (range_with_len s (before + count)) ≡ range_with_len a count
some_from a s zero count h =
    let same : s ≡ a = omega (arith, h) in
    let none : zero + count ≡ count = omega arith in
    rw none (all_from a s count (omega (arith, h)) ∙ ap (λ (z : ℕ). range_with_len z count) same)
some_from a s (suc before) count h =
    let e : nat_le a s ≡ false = grind (arith, nat_tests) in
    let more : suc before + count ≡ suc (before + count) = omega arith in
    rw (more, e) (some_from a (s + 1) before count (omega (arith, h)))

-- the phases of dimensions that are rounds
crossings : (n k at : ℕ) (dims : List ℕ)
    → map round_of (filter (λ phase. is_round n k phase.step)
    (map (λ step. record { at = at; act = act.Cycle; step = step }) (map Cross dims ++ Deliver ∷ []) ++ []))
    ≡ map (crossing_at at) (filter (nat_le (n - k)) dims)
crossings n k at [] = refl
crossings n k at (d ∷ dims) = grind (arith, crossings n k at dims)

-- the rounds of a petit cycle
pub rounds_of_cycle : (n k at : ℕ) → k ≤ n
    → map (crossing_at at) (range_with_len (n - k) k) ≡ rounds_from n k at (act.Cycle ∷ [])
rounds_of_cycle n k at h =
    let all : n ≡ (n - k) + k = omega arith in
    sym (crossings n k at (range_with_len 0 n)
    ∙ ap (map (crossing_at at)) (ap (λ (z : ℕ). filter (nat_le (n - k)) (range_with_len 0 z)) all
    ∙ some_from (n - k) 0 (n - k) k (omega arith)))

-- one dimension more
pub crossings-more : (from d : ℕ) (at : ℕ) → from ≤ d
    → map (crossing_at at) (range_with_len from (d + 1 - from))
    ≡ map (crossing_at at) (range_with_len from (d - from)) ++ crossing_at at d ∷ []
crossings-more from d at h =
    ap (λ (z : ℕ). map (crossing_at at) (range_with_len from z))
    (let e : d + 1 - from ≡ (d - from) + 1 = omega arith in e)
    ∙ map-range_with_len_more (crossing_at at) from (d - from) d (omega arith)
