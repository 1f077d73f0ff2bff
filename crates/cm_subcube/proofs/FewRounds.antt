-- The rounds of a run, counted act by act.
use Rattle.std.proofs.Common.{◌≡◌, ℕ, ◌+◌, ◌-◌, ◌*◌, ◌≤◌, Bool, true, false, cond, List, [], ◌∷◌, ◌++◌, length, map}
use Rattle.std.proofs.Common.{refl, sym, ap, ◌∙◌, arith}
use Rattle.std.specs.List.{filter}
use Rattle.std.proofs.Math.Nat.{mul-add}
use Rattle.std.proofs.lemmas.List.{map-append, length-append, length-map}
use Rattle.std.proofs.lemmas.List.Elements.{filter-append}
use Rattle.std.proofs.lemmas.List.FromFn.{length-map-range_with_len}
use Rattle.std.proofs.lemmas.List.Sums.{sum_by-append}
use Rattle.cm_model.specs.declared.act.Act.{Act}
use Rattle.cm_model.specs.declared.act.Act.TheVariants as act
use Rattle.cm_model.specs.Steps.{Instruct, Phase, phases_of, phases_from}
use Rattle.cm_blocks.specs.Rounds.{is_round}
use Rattle.cm_array.specs.Acts.{is_cycle, cycles_in}
use Rattle.cm_subcube.specs.declared.round.Round.{Round}
use Rattle.cm_subcube.specs.Rounds.{round_of, rounds_from, crossing_at}
use Rattle.cm_subcube.specs.Few.{RoundsAreFew}
use Rattle.cm_subcube.proofs.Rounding.{rounds_of_cycle}

-- the rounds of one act
abbrev rounds_in_act : ℕ → ℕ → ℕ → Act → List Round
rounds_in_act n k at one = map round_of (filter (λ phase. is_round n k phase.step) (phases_of n at one))

-- they and those of the acts behind it
rounds_from-cons : (n k at : ℕ) (one : Act) (more : List Act)
    → rounds_from n k at (one ∷ more) ≡ rounds_in_act n k at one ++ rounds_from n k (at + 1) more
rounds_from-cons n k at one more =
    let is : Phase → Bool = λ phase. is_round n k phase.step in
    ap (map round_of) (filter-append is (phases_of n at one) (phases_from n (at + 1) more))
    ∙ map-append round_of (filter is (phases_of n at one)) (filter is (phases_from n (at + 1) more))

length-cons : (n k at : ℕ) (one : Act) (more : List Act)
    → length (rounds_from n k at (one ∷ more)) ≡ length (rounds_in_act n k at one) + length (rounds_from n k (at + 1) more)
length-cons n k at one more =
    ap length (rounds_from-cons n k at one more)
    ∙ length-append (rounds_in_act n k at one) (rounds_from n k (at + 1) more)

-- one thing, if it passes a test, is at most one
one_at_most : {X : Type 0} (is : X → Bool) (x : X) → length (filter is (x ∷ [])) ≤ 1
one_at_most is x = by_test (is x) refl
  where
    by_test : (b : Bool) → is x ≡ b → length (filter is (x ∷ [])) ≤ 1
    by_test true e = rw e (omega arith)
    by_test false e = rw e (omega arith)

-- ---- of each act

few_in_act : (n k at : ℕ) (one : Act) → k ≤ n
    → length (rounds_in_act n k at one) + cycles_in (one ∷ []) ≤ 1 + k * cycles_in (one ∷ [])
few_in_act n k at (act.Nano nano) within =
    let phase : Phase = record { at = at; act = act.Nano nano; step = Instruct nano } in
    let is : Phase → Bool = λ phase. is_round n k phase.step in
    let few = one_at_most is phase in
    let same : length (rounds_in_act n k at (act.Nano nano)) ≡ length (filter is (phase ∷ [])) =
    length-map (filter is (phase ∷ [])) round_of in
    omega (arith, few, same)
few_in_act n k at act.Sense within = omega arith
few_in_act n k at act.Cycle within =
    let alone = length-cons n k at act.Cycle [] in
    let all : length (rounds_from n k at (act.Cycle ∷ [])) ≡ k =
    ap length (sym (rounds_of_cycle n k at within)) ∙ length-map-range_with_len (crossing_at at) (n - k) k in
    omega (arith, alone, all)

-- ---- of all

cycles_in-cons : (one : Act) (more : List Act) → cycles_in (one ∷ more) ≡ cycles_in (one ∷ []) + cycles_in more
cycles_in-cons one more = sum_by-append (λ (a : Act). cond (is_cycle a) 1 0) (one ∷ []) more

few_from : (n k at : ℕ) (acts : List Act) → k ≤ n
    → length (rounds_from n k at acts) + cycles_in acts ≤ length acts + k * cycles_in acts
few_from n k at [] within = omega arith
few_from n k at (one ∷ more) within =
    let first = few_in_act n k at one within in
    let rest = few_from n k (at + 1) more within in
    let count = length-cons n k at one more in
    let cycles = cycles_in-cons one more in
    let crossings : k * cycles_in (one ∷ more) ≡ k * cycles_in (one ∷ []) + k * cycles_in more =
    ap (λ (c : ℕ). k * c) cycles ∙ mul-add k (cycles_in (one ∷ [])) (cycles_in more) in
    omega (arith, first, rest, count, cycles, crossings)

pub rounds_are_few : RoundsAreFew
rounds_are_few n k acts within = few_from n k 0 acts within
