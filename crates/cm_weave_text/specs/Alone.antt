-- A world that takes its steps by itself, and what it tells of them: ours.
use Rattle.std.specs.Prelude.{ℕ, zero, suc, ◌*◌, ◌^◌, Option, Some, None}
use Rattle.std.specs.Prelude.{List, [], ◌∷◌, ◌++◌, length, flat_map, codes, decimal}
use Rattle.cm_session.specs.Answer.{line}
use Rattle.cm_exchange.specs.declared.step.Step.{Step}
use Rattle.cm_exchange.specs.declared.step.Step.TheVariants.{Grip, File, Draw, Clear}
use Rattle.cm_exchange.specs.Lanes.{Exchange, round_count}
use Rattle.cm_exchange.specs.Worlds.{World}
use Rattle.cm_exchange.specs.Steps.{next_step, world_after}
use Rattle.cm_weave_text.specs.Ends.{finished_line}

-- a step as a line
unfoldable pub step_line : Step → List ℕ
step_line (Grip b) = line (codes "grip" ∷ decimal b ∷ [])
step_line (File b) = line (codes "file" ∷ decimal b ∷ [])
step_line (Draw b) = line (codes "draw" ∷ decimal b ∷ [])
step_line (Clear b) = line (codes "clear" ∷ decimal b ∷ [])

-- a step, if there is one, and those that come after it
abbrev pub with_rest : (World → List Step) → Exchange → World → Option Step → List Step
with_rest rest exchange world None = []
with_rest rest exchange world (Some step) = step ∷ rest (world_after exchange world step)

-- the steps of a world that always takes its next step, at most so many
unfoldable pub by_itself : Exchange → ℕ → World → List Step
by_itself exchange zero world = []
by_itself exchange (suc most) world = with_rest (by_itself exchange most) exchange world (next_step exchange world)

-- how many steps there are from the first world to a finished one
abbrev pub step_count : Exchange → ℕ
step_count exchange = 4 * round_count exchange * 2 ^ exchange.k

-- all steps of a world that always takes its next one
abbrev pub own_steps : Exchange → World → List Step
own_steps exchange world = by_itself exchange (step_count exchange) world

-- what it tells: the steps, how many they are, and that it is finished
unfoldable pub own_text : Exchange → World → List ℕ
own_text exchange world =
    flat_map step_line (own_steps exchange world)
    ++ (line (codes "steps" ∷ decimal (length (own_steps exchange world)) ∷ []) ++ finished_line)
