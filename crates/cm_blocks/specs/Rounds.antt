-- Rounds: the steps of a run at which bands of a machine have to exchange, and the steps between them. Ours.
use Rattle.std.specs.Prelude.{ℕ, zero, suc, ◌-◌, ◌==◌, ◌&&◌, Bool, true, false, not}
use Rattle.std.specs.Prelude.{List, [], ◌∷◌, nat_le, if◌then◌else◌}
use Rattle.std.specs.List.{filter}
use Rattle.cm_bits.specs.declared.plane.Dir.{Dir}
use Rattle.cm_bits.specs.declared.plane.Dir.TheVariants.{North, East, West, South}
use Rattle.cm_model.specs.declared.act.Act.{Act}
use Rattle.cm_model.specs.Processor.{NEWS}
use Rattle.cm_model.specs.Steps.{Step, Instruct, Look, Inject, Cross, Deliver, Phase, phases, steps_in}
use Rattle.cm_model.specs.Machine.{Machine}
use Rattle.cm_model.specs.Buffers.{after_steps}

-- north or south: over the upper and the lower edge of a band
abbrev pub is_vertical : Dir → Bool
is_vertical North = true
is_vertical South = true
is_vertical East = false
is_vertical West = false

-- a step at which the 2 ^ k bands of a cube of n dimensions have to exchange: NEWS northward or southward,
-- and each of the last k dimensions
abbrev pub is_round : ℕ → ℕ → Step → Bool
is_round n k (Instruct nano) = not (k == 0) && (nano.write == NEWS && is_vertical nano.dir)
is_round n k Look = false
is_round n k Inject = false
is_round n k (Cross d) = nat_le (n - k) d
is_round n k Deliver = false

-- the rounds of a run, in order
abbrev pub rounds : ℕ → ℕ → List Act → List Phase
rounds n k acts = filter (λ phase. is_round n k phase.step) (phases n acts)

-- of a list, what stands before the element of number r that passes a test: all of it, if there are not so many
abbrev pub until : {X : Type 0} → (X → Bool) → ℕ → List X → List X
until is r [] = []
until is zero (x ∷ xs) = if is x then [] else x ∷ until is zero xs
until is (suc r) (x ∷ xs) = x ∷ until is (if is x then r else suc r) xs

-- and what stands behind it
abbrev pub beyond : {X : Type 0} → (X → Bool) → ℕ → List X → List X
beyond is r [] = []
beyond is zero (x ∷ xs) = if is x then xs else beyond is zero xs
beyond is (suc r) (x ∷ xs) = beyond is (if is x then r else suc r) xs

-- the steps of a run before round r
abbrev pub steps_until : ℕ → ℕ → List Act → ℕ → List Step
steps_until n k acts r = steps_in (until (λ phase. is_round n k phase.step) r (phases n acts))

-- the steps between round r and the next
abbrev pub steps_between : ℕ → ℕ → List Act → ℕ → List Step
steps_between n k acts r =
    steps_in (until (λ phase. is_round n k phase.step) 0 (beyond (λ phase. is_round n k phase.step) r (phases n acts)))

-- of some steps, those before the first that is a round
abbrev pub until_round : ℕ → ℕ → List Step → List Step
until_round n k steps = until (is_round n k) 0 steps

-- the steps of a run behind round r
abbrev pub steps_after_round : ℕ → ℕ → List Act → ℕ → List Step
steps_after_round n k acts r = steps_in (beyond (λ phase. is_round n k phase.step) r (phases n acts))

-- the machine before round r of a run, or after all of it
unfoldable pub before_round : ℕ → ℕ → ℕ → Machine → List Act → ℕ → Machine
before_round n cap k machine acts r = after_steps n cap machine (steps_until n k acts r)
