-- Worked values of the definitions, which the checker computes: two blocks with one round over dimension 0.
use Rattle.std.proofs.Common.{◌≡◌, ℕ, zero, suc, Bool, true, false, cond, List, [], ◌∷◌, Option, Some, None, refl}
use Rattle.cm_blocks.specs.Parcels.{Blank}
use Rattle.cm_exchange.specs.declared.step.Step.{Step}
use Rattle.cm_exchange.specs.declared.step.Step.TheVariants.{Grip, File, Draw, Clear}
use Rattle.cm_exchange.specs.Lanes.{Exchange, giver, receiver, uses}
use Rattle.cm_exchange.specs.Worlds.{World, first_world}
use Rattle.cm_exchange.specs.Steps.{is_possible, world_after, next_step}

abbrev one_round : Exchange
one_round = record { k = 1; kinds = 2 ∷ []; sent = λ r b. Blank }

-- which of some steps are taken, where one that cannot be taken changes nothing
abbrev taken : Exchange → World → List Step → List Bool
taken exchange world [] = []
taken exchange world (step ∷ steps) =
    is_possible exchange world step
    ∷ taken exchange (cond (is_possible exchange world step) (world_after exchange world step) world) steps

twelve_steps : taken one_round (first_world one_round)
    (Draw 0 ∷ Grip 0 ∷ Grip 0 ∷ File 0 ∷ Draw 0 ∷ Grip 1 ∷ File 1 ∷ Draw 0 ∷ Clear 0 ∷ Draw 1 ∷ Clear 1 ∷ Clear 1 ∷ [])
    ≡ false ∷ true ∷ false ∷ true ∷ false ∷ true ∷ true ∷ true ∷ true ∷ true ∷ true ∷ false ∷ []
unfolding first_world is_possible world_after
twelve_steps = refl

-- the steps that come by themselves, so many at most
abbrev and_on : Exchange → World → (World → List Step) → Option Step → List Step
and_on exchange world on None = []
and_on exchange world on (Some step) = step ∷ on (world_after exchange world step)

abbrev by_itself : Exchange → ℕ → World → List Step
by_itself exchange zero world = []
by_itself exchange (suc count) world =
    and_on exchange world (λ now. by_itself exchange count now) (next_step exchange world)

eight_steps : by_itself one_round 9 (first_world one_round)
    ≡ Grip 0 ∷ File 0 ∷ Grip 1 ∷ File 1 ∷ Draw 0 ∷ Clear 0 ∷ Draw 1 ∷ Clear 1 ∷ []
unfolding first_world is_possible world_after next_step
eight_steps = refl

-- no block above what there are
not_a_block : is_possible one_round (first_world one_round) (Grip 2) ≡ false
unfolding first_world is_possible
not_a_block = refl

northward_comes_from_below : giver 2 0 3 ≡ 0
northward_comes_from_below = refl

southward_goes_down : receiver 2 1 3 ≡ 0
southward_goes_down = refl

over_the_second_of_two : giver 2 3 1 ≡ 3
over_the_second_of_two = refl

third_use : uses (2 ∷ 3 ∷ 2 ∷ 3 ∷ 2 ∷ []) 2 4 ≡ 2
third_use = refl
