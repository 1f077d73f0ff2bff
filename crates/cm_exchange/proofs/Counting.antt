-- Every step counts for one, and a world is finished when all are taken.
use Rattle.std.proofs.Common.{◌≡◌, ℕ, zero, suc, ◌+◌, ◌*◌, ◌^◌, ◌<◌, ◌≤◌, ◌↔◌, sym, ap, ◌∙◌, refl, subst, true}
use Rattle.std.proofs.Common.{List, [], ◌∷◌, length, replicate, arith}
use Rattle.std.proofs.lemmas.List.{get_or_default}
use Rattle.std.proofs.lemmas.List.Sums.{sum_by-cons, sum_by-set}
use Rattle.std.specs.List.{sum_by, All}
use Rattle.cm_exchange.specs.declared.stand.Stand.{Stand}
use Rattle.cm_exchange.specs.declared.step.Step.{Step}
use Rattle.cm_exchange.specs.declared.step.Step.TheVariants.{Grip, File, Draw, Clear}
use Rattle.cm_exchange.specs.Lanes.{Exchange, round_count}
use Rattle.cm_exchange.specs.Worlds.{World, at_first, first_world, stand_of, IsFinished}
use Rattle.cm_exchange.specs.Steps.{block_of, stage_of, stand_after, is_possible, world_after, Lead, IsReached}
use Rattle.cm_exchange.specs.Laws.{HasItsKinds}
use Rattle.cm_exchange.proofs.Soundness.{IsStand, IsSound, Can, can, sound-after, first-sound, next-is, reached-sound}

-- the steps that a block has taken, and all
abbrev pub steps_by : Stand → ℕ
steps_by stand = 4 * stand.round + stand.stage

abbrev pub steps_in : World → ℕ
steps_in world = sum_by steps_by world.stands

one_step_more : (step : Step) (stand : Stand) → stand.stage ≡ stage_of step
    → steps_by (stand_after step stand) ≡ steps_by stand + 1
one_step_more (Grip b) stand e = omega (arith, e)
one_step_more (File b) stand e = omega (arith, e)
one_step_more (Draw b) stand e = omega (arith, e)
one_step_more (Clear b) stand e = omega (arith, e)

steps-after : (exchange : Exchange) (world : World) (step : Step) → IsSound exchange world
    → is_possible exchange world step ≡ true → steps_in (world_after exchange world step) ≡ steps_in world + 1
unfolding is_possible world_after
steps-after exchange world step sound h =
    let stand : Stand = stand_of world (block_of step) in
    let able : Can exchange world stand step = can exchange world stand step h in
    let more = one_step_more step stand able.stage in
    let all = sum_by-set steps_by world.stands (block_of step) (stand_after step stand) at_first
    (subst (λ (z : ℕ). block_of step < z) (sym sound.stand_count) able.below) in
    omega (arith, more, all)

none_at_first : (count : ℕ) → sum_by steps_by (replicate count at_first) ≡ 0
none_at_first zero = refl
none_at_first (suc count) =
    sum_by-cons steps_by at_first (replicate count at_first) ∙ (let h = none_at_first count in omega (arith, h))

lead-counts : (exchange : Exchange) (steps : List Step) (old last : World) → HasItsKinds exchange
    → IsSound exchange old → Lead exchange steps old last → steps_in last ≡ steps_in old + length steps
lead-counts exchange [] old last is sound lead =
    let e : steps_in last ≡ steps_in old = ap steps_in lead in omega (arith, e)
lead-counts exchange (step ∷ steps) old last is sound lead =
    let e = next-is exchange old lead.0 step lead.1 in
    let one : steps_in lead.0 ≡ steps_in old + 1 = ap steps_in e.1 ∙ steps-after exchange old step sound e.0 in
    let more = lead-counts exchange steps lead.0 last is
    (subst (IsSound exchange) (sym e.1) (sound-after exchange old step is sound e.0)) lead.2 in
    omega (arith, one, more)

reached-counts : (exchange : Exchange) (steps : List Step) (world : World) → HasItsKinds exchange
    → IsReached exchange steps world → steps_in world ≡ length steps
unfolding first_world
reached-counts exchange steps world is reached =
    let none = none_at_first (2 ^ exchange.k) in
    let all = lead-counts exchange steps (first_world exchange) world is (first-sound exchange) reached.lead in
    omega (arith, none, all)

-- ---- sums of equal numbers

sum_of_equals : {X : Type 0} (f : X → ℕ) (m : ℕ) (xs : List X) → All (λ x. f x ≡ m) xs → sum_by f xs ≡ length xs * m
sum_of_equals f m [] h = omega arith
sum_of_equals f m (x ∷ xs) h =
    let one : f x ≡ m = h 0 x (omega arith) in
    let rest = sum_of_equals f m xs (λ i d l. h (suc i) d (omega (arith, l))) in
    let all = sum_by-cons f x xs in
    let split : suc (length xs) * m ≡ length xs * m + m = grind arith in
    omega (arith, one, rest, all, split)

at_most : {X : Type 0} (f : X → ℕ) (m : ℕ) (xs : List X) → All (λ x. f x ≤ m) xs → sum_by f xs ≤ length xs * m
at_most f m [] h = omega arith
at_most f m (x ∷ xs) h =
    let one : f x ≤ m = h 0 x (omega arith) in
    let rest = at_most f m xs (λ i d l. h (suc i) d (omega (arith, l))) in
    let all = sum_by-cons f x xs in
    let split : suc (length xs) * m ≡ length xs * m + m = grind arith in
    omega (arith, one, rest, all, split)

equals_of_sum : {X : Type 0} (f : X → ℕ) (m : ℕ) (xs : List X) → All (λ x. f x ≤ m) xs
    → sum_by f xs ≡ length xs * m → All (λ x. f x ≡ m) xs
equals_of_sum f m [] h e i d l = absurd (omega (arith, l))
equals_of_sum f m (x ∷ xs) h e zero d l =
    let one : f x ≤ m = h 0 x (omega arith) in
    let rest = at_most f m xs (λ i d l. h (suc i) d (omega (arith, l))) in
    let all = sum_by-cons f x xs in
    let split : suc (length xs) * m ≡ length xs * m + m = grind arith in
    omega (arith, one, rest, all, split, e)
equals_of_sum f m (x ∷ xs) h e (suc i) d l =
    let one : f x ≤ m = h 0 x (omega arith) in
    let rest = at_most f m xs (λ i d l. h (suc i) d (omega (arith, l))) in
    let all = sum_by-cons f x xs in
    let split : suc (length xs) * m ≡ length xs * m + m = grind arith in
    equals_of_sum f m xs (λ i d l. h (suc i) d (omega (arith, l))) (omega (arith, one, rest, all, split, e)) i d
    (omega (arith, l))

-- ---- a finished world

pub stands-all : (exchange : Exchange) (world : World) → IsSound exchange world
    → All (IsStand (round_count exchange)) world.stands
stands-all exchange world sound i d l =
    subst (IsStand (round_count exchange)) (get_or_default world.stands i at_first d l)
    (sound.stands i (subst (λ (z : ℕ). i < z) sound.stand_count l))

pub steps_are_counted : (exchange : Exchange) (steps : List Step) (world : World) → HasItsKinds exchange
    → IsReached exchange steps world →
    IsFinished exchange world ↔ (length steps ≡ 4 * round_count exchange * 2 ^ exchange.k)
steps_are_counted exchange steps world is reached =
    let sound : IsSound exchange world = reached-sound exchange steps world is reached in
    let stands : All (IsStand (round_count exchange)) world.stands = stands-all exchange world sound in
    let taken : steps_in world ≡ length steps = reached-counts exchange steps world is reached in
    let whole : length world.stands * (4 * round_count exchange) ≡ 4 * round_count exchange * 2 ^ exchange.k =
    ap (λ (z : ℕ). z * (4 * round_count exchange)) sound.stand_count ∙ grind arith in (
      (λ finished.
          sym taken
          ∙ sum_of_equals steps_by (4 * round_count exchange) world.stands
          (λ i d l. let s = stands i d l in let f = finished i d l in
          let w = s.within in omega (arith, w, f))
          ∙ whole),
      (λ count i d l.
          let s = stands i d l in
          let all = equals_of_sum steps_by (4 * round_count exchange) world.stands
          (λ i d l. (stands i d l).within) (taken ∙ count ∙ sym whole) i d l in
          let stage = s.stage in
          omega (arith, all, stage)),
    )

pub orders_come_to_an_end : (exchange : Exchange) (steps : List Step) (world : World) → HasItsKinds exchange
    → IsReached exchange steps world → length steps ≤ 4 * round_count exchange * 2 ^ exchange.k
orders_come_to_an_end exchange steps world is reached =
    let sound : IsSound exchange world = reached-sound exchange steps world is reached in
    let stands : All (IsStand (round_count exchange)) world.stands = stands-all exchange world sound in
    let taken : steps_in world ≡ length steps = reached-counts exchange steps world is reached in
    let most = at_most steps_by (4 * round_count exchange) world.stands (λ i d l. (stands i d l).within) in
    let whole : length world.stands * (4 * round_count exchange) ≡ 4 * round_count exchange * 2 ^ exchange.k =
    ap (λ (z : ℕ). z * (4 * round_count exchange)) sound.stand_count ∙ grind arith in
    omega (arith, taken, most, whole)
