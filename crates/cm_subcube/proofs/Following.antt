-- What stands behind a round of a run is told by the round alone.
use Rattle.std.proofs.Common.{◌≡◌, ℕ, zero, suc, ◌+◌, ◌-◌, ◌<◌, ◌==◌, ◌&&◌, Bool, true, false, not}
use Rattle.std.proofs.Common.{List, [], ◌∷◌, ◌++◌, length}
use Rattle.std.proofs.Common.{map, drop, Some, None, refl, sym, ◌∙◌, ap, arith}
use Rattle.std.specs.Prelude.{slice_get, nat_le}
use Rattle.std.specs.List.{filter, range_with_len}
use Rattle.std.proofs.lemmas.Bool.{cond_both}
use Rattle.std.proofs.lemmas.Bool.Decides.{nat_tests}
use Rattle.std.proofs.lemmas.List.{map-append}
use Rattle.cm_bits.specs.declared.plane.Dir.{Dir}
use Rattle.cm_bits.specs.declared.plane.Dir.TheVariants as dir
use Rattle.cm_model.specs.declared.act.Act.{Act}
use Rattle.cm_model.specs.declared.act.Act.TheVariants as act
use Rattle.cm_model.specs.declared.act.Nano.{Nano}
use Rattle.cm_model.specs.Processor.{NEWS}
use Rattle.cm_model.specs.Steps.{Step, IsStep, Instruct, Cross, Deliver, Phase, all_steps}
use Rattle.cm_model.specs.Steps.{phases, phases_from, steps_in}
use Rattle.cm_model.proofs.Parts.{steps_in-phases_from}
use Rattle.cm_blocks.specs.Rounds.{is_round, is_vertical, rounds, beyond, until_round}
use Rattle.cm_subcube.specs.Parcels.{IsExchangeBy}
use Rattle.cm_subcube.specs.Rounds.{kind_over, kind_of, round_of, step_in, step_of}
use Rattle.cm_subcube.specs.Local.{steps_behind, IsRoundOf}
use Rattle.cm_subcube.specs.Laws.{IsFollowed}
use Rattle.cm_subcube.proofs.Counting.{steps_between-steps_after_round}

-- ---- what stands behind an element

-- a fact of each element and what stands behind it
abbrev AllTails : {X : Type 0} → (X → List X → Type 0) → List X → Type 0
AllTails P [] = Unit {0}
AllTails P (x ∷ xs) = P x xs × AllTails P xs

behind : {X : Type 0} (is : X → Bool) (P : X → List X → Type 0) (r : ℕ) (xs : List X) (x : X)
    → AllTails (λ y ys. is y ≡ true → P y ys) xs → slice_get (filter is xs) r ≡ Some x → P x (beyond is r xs)
behind is P zero [] x all h = absurd (let wrong : None ≡ Some x = h in cc)
behind is P (suc r) [] x all h = absurd (let wrong : None ≡ Some x = h in cc)
behind is P zero (y ∷ xs) x all h =
    cond_both (is y) xs (beyond is 0 xs) (P x)
    (λ e. let here : Some y ≡ Some x = rw e at h in let same : y ≡ x = cc in rw (← same) (all.0 e))
    (λ e. behind is P 0 xs x all.1 (rw e at h))
behind is P (suc r) (y ∷ xs) x all h =
    cond_both (is y) r (suc r) (λ k. P x (beyond is k xs))
    (λ e. behind is P r xs x all.1 (rw e at h)) (λ e. behind is P (suc r) xs x all.1 (rw e at h))

-- an element that is first of a rest, and the rest behind it
record IsAt {X : Type 0} (at : ℕ) (all : List X) (one : X) (more : List X) : Type 0 where
  pub rest : drop (at + 1) all ≡ more
  pub there : at < length all
  pub read : slice_get all at ≡ Some one

is_at : {X : Type 0} (at : ℕ) (all : List X) (one : X) (more : List X) → drop at all ≡ one ∷ more → IsAt at all one more
is_at zero all one more h = record {
  rest = ap (drop 1) h;
  there = (let long : length all ≡ length (one ∷ more) = ap length h in omega (arith, long));
  read = ap (λ z. slice_get z 0) h;
}
is_at (suc at) [] one more h = absurd (let wrong : [] ≡ one ∷ more = h in cc)
is_at (suc at) (x ∷ all) one more h =
    let inner = is_at at all one more h in
    record {
      rest = ap (λ (z : ℕ). drop z (x ∷ all)) (let e : suc at + 1 ≡ suc (at + 1) = omega arith in e) ∙ inner.rest;
      there = omega (arith, inner.there);
      read = inner.read;
    }

-- ---- the phases of a run

-- an instruction at which blocks exchange
exchange_over : (n k : ℕ) (nano : Nano) (over : Dir) → nano.dir ≡ over
    → (not (k == 0) && (nano.write == NEWS && is_vertical over)) ≡ true
    → IsExchangeBy n k (act.Nano nano) (kind_over over)
exchange_over n k nano dir.North is h =
    record { blocks = grind (arith, nat_tests); news = grind (arith, nat_tests); dir = is }
exchange_over n k nano dir.South is h =
    record { blocks = grind (arith, nat_tests); news = grind (arith, nat_tests); dir = is }
exchange_over n k nano dir.East is h = absurd (grind (arith, nat_tests))
exchange_over n k nano dir.West is h = absurd (grind (arith, nat_tests))

step_over : (nano : Nano) (over : Dir) → step_in (act.Nano nano) (kind_over over) ≡ Instruct nano
step_over nano over = grind arith

nothing_behind : (n : ℕ) (over : Dir) → steps_behind n (kind_over over) ≡ []
nothing_behind n over = grind arith

steps_in-tagged : (at : ℕ) (one : Act) (steps : List Step)
    → steps_in (map (λ step. record { at = at; act = one; step = step }) steps) ≡ steps
steps_in-tagged at one [] = refl
steps_in-tagged at one (step ∷ steps) = ap (λ z. step ∷ z) (steps_in-tagged at one steps)

module _ (n k : ℕ) (all : List Act) where
  -- what a round tells of the steps behind it
  record Follows (phase : Phase) (rest : List Phase) : Type 0 where
    pub steps : steps_in rest ≡ steps_behind n (kind_of phase.step) ++ all_steps n (drop (phase.at + 1) all)
    pub round : IsRoundOf n k all (round_of phase)
    pub step : step_of (round_of phase) ≡ phase.step
    pub is_step : IsStep n phase.step
    pub exchanges : is_round n k phase.step ≡ true

  abbrev AllFollow : List Phase → Type 0
  AllFollow run = AllTails (λ phase rest. is_round n k phase.step ≡ true → Follows phase rest) run

  follow-crossings : (at : ℕ) (more : List Act) → IsAt at all act.Cycle more → AllFollow (phases_from n (at + 1) more)
      → (d count : ℕ) → d + count ≡ n
      → AllFollow (map (λ step. record { at = at; act = act.Cycle; step = step })
      (map Cross (range_with_len d count) ++ Deliver ∷ []) ++ phases_from n (at + 1) more)
  follow-crossings at more here rest d zero whole = (λ (e : false ≡ true). absurd (cc), rest)
  follow-crossings at more here rest d (suc count) whole =
      let tagged : Step → Phase = λ step. record { at = at; act = act.Cycle; step = step } in
      let left : count ≡ n - d - 1 = omega (arith, whole) in
      let behind_it : List Step = map Cross (range_with_len (d + 1) count) ++ Deliver ∷ [] in (
        λ (e : nat_le (n - k) d ≡ true). record {
          steps = map-append (λ (phase : Phase). phase.step) (map tagged behind_it) (phases_from n (at + 1) more)
              ∙ (λ i. steps_in-tagged at act.Cycle behind_it i ++ steps_in-phases_from n (at + 1) more i)
              ∙ (λ i. (map Cross (range_with_len (d + 1) (left i)) ++ Deliver ∷ []) ++ all_steps n (sym here.rest i));
          round = record {
            there = here.there;
            act = here.read;
            exchange = record { from = grind (arith, nat_tests); below = omega (arith, whole) };
          };
          step = refl;
          is_step = omega (arith, whole);
          exchanges = e;
        },
        follow-crossings at more here rest (d + 1) count (omega (arith, whole)),
      )

  follow-acts : (at : ℕ) (acts : List Act) → drop at all ≡ acts → AllFollow (phases_from n at acts)
  follow-acts at [] is = tt
  follow-acts at (act.Nano nano ∷ more) is =
      let here : IsAt at all (act.Nano nano) more = is_at at all (act.Nano nano) more is in (
        λ (e : is_round n k (Instruct nano) ≡ true). record {
          steps = steps_in-phases_from n (at + 1) more
              ∙ ap (all_steps n) (sym here.rest)
              ∙ ap (λ z. z ++ all_steps n (drop (at + 1) all)) (sym (nothing_behind n nano.dir));
          round = record {
            there = here.there;
            act = here.read;
            exchange = exchange_over n k nano nano.dir refl e;
          };
          step = step_over nano nano.dir;
          is_step = tt;
          exchanges = e;
        },
        follow-acts (at + 1) more here.rest,
      )
  follow-acts at (act.Sense ∷ more) is =
      let here : IsAt at all act.Sense more = is_at at all act.Sense more is in
      (λ (e : false ≡ true). absurd (cc), follow-acts (at + 1) more here.rest)
  follow-acts at (act.Cycle ∷ more) is =
      let here : IsAt at all act.Cycle more = is_at at all act.Cycle more is in (
        λ (e : false ≡ true). absurd (cc),
        follow-crossings at more here (follow-acts (at + 1) more here.rest) 0 n (omega arith),
      )

-- a round tells the steps between it and the next
pub round_is_followed : (n k r : ℕ) (acts : List Act) (phase : Phase) → slice_get (rounds n k acts) r ≡ Some phase
    → IsFollowed n k r acts phase
round_is_followed n k r acts phase at =
    let told : Follows n k acts phase (beyond (λ p. is_round n k p.step) r (phases n acts)) =
    behind (λ (p : Phase). is_round n k p.step) (Follows n k acts) r (phases n acts) phase
    (follow-acts n k acts 0 acts refl)
    at in
    record {
      between = steps_between-steps_after_round n k r acts ∙ ap (until_round n k) told.steps;
      round = told.round;
      step = told.step;
      is_step = told.is_step;
      exchanges = told.exchanges;
    }
