-- The steps of an exchange, one at a time: which a block can take in a world, and the world after it. Ours.
use Rattle.std.specs.Prelude.{◌≡◌, ℕ, zero, suc, ◌+◌, ◌*◌, ◌%◌, ◌^◌, ◌==◌, ◌&&◌, Bool, true, nat_lt, List, [], ◌∷◌}
use Rattle.std.specs.Prelude.{Option, Some, None, map, slice_get, slice_set, if◌then◌else◌}
use Rattle.std.specs.List.{find, range_with_len}
use Rattle.cm_blocks.specs.Parcels.{Parcel}
use Rattle.cm_exchange.specs.declared.stand.Stand.{Stand}
use Rattle.cm_exchange.specs.declared.step.Step.{Step}
use Rattle.cm_exchange.specs.declared.step.Step.TheVariants.{Grip, File, Draw, Clear}
use Rattle.cm_exchange.specs.Lanes.{Exchange, round_count, kind_at, uses, due_list, giver}
use Rattle.cm_exchange.specs.Worlds.{Lane, World, first_world, stand_of, lane_number, lane_of}

-- the block of a step
abbrev pub block_of : Step → ℕ
block_of (Grip b) = b
block_of (File b) = b
block_of (Draw b) = b
block_of (Clear b) = b

-- the stage at which it is taken
abbrev pub stage_of : Step → ℕ
stage_of (Grip b) = 0
stage_of (File b) = 1
stage_of (Draw b) = 2
stage_of (Clear b) = 3

-- the kind of the round at which a block stands
abbrev pub kind_now : Exchange → Stand → ℕ
kind_now exchange stand = kind_at exchange.kinds stand.round

-- how often lanes of that kind were used in the rounds before
abbrev pub uses_now : Exchange → Stand → ℕ
uses_now exchange stand = uses exchange.kinds (kind_now exchange stand) stand.round

-- the sender of the lane that a step moves
abbrev pub sender_of : Exchange → Stand → Step → ℕ
sender_of exchange stand (Grip b) = b
sender_of exchange stand (File b) = b
sender_of exchange stand (Draw b) = giver exchange.k (kind_now exchange stand) b
sender_of exchange stand (Clear b) = giver exchange.k (kind_now exchange stand) b

-- the lane may be moved: taken where it is empty in this use, drawn where it is full; who holds it may always
abbrev pub is_moved : Step → ℕ → ℕ → Bool
is_moved (Grip b) count word = word == 4 * count
is_moved (File b) count word = true
is_moved (Draw b) count word = word == 4 * count + 2
is_moved (Clear b) count word = true

-- the same, told by the last two bits of the word alone, where the block is at the stage of the step
abbrev pub is_ready : Step → ℕ → Bool
is_ready (Grip b) word = word % 4 == 0
is_ready (File b) word = true
is_ready (Draw b) word = word % 4 == 2
is_ready (Clear b) word = true

-- the lane after the step
abbrev pub moved : Step → List Parcel → ℕ → Lane → Lane
moved (Grip b) dues count lane = record { word = 4 * count + 1; parcel = lane.parcel }
moved (File b) dues count lane = record { word = 4 * count + 2; parcel = slice_get dues count }
moved (Draw b) dues count lane = record { word = 4 * count + 3; parcel = lane.parcel }
moved (Clear b) dues count lane = record { word = 4 * count + 4; parcel = None }

-- the block after it
abbrev pub stand_after : Step → Stand → Stand
stand_after (Grip b) stand = record { round = stand.round; stage = 1 }
stand_after (File b) stand = record { round = stand.round; stage = 2 }
stand_after (Draw b) stand = record { round = stand.round; stage = 3 }
stand_after (Clear b) stand = record { round = stand.round + 1; stage = 0 }

-- a step of a block that stands so can be taken
abbrev pub can_step : Exchange → World → Stand → Step → Bool
can_step exchange world stand step =
    nat_lt (block_of step) (2 ^ exchange.k)
    && (nat_lt stand.round (round_count exchange)
    && (stand.stage == stage_of step
    && is_moved step (uses_now exchange stand)
    (lane_of exchange.k world (kind_now exchange stand) (sender_of exchange stand step)).word))

-- the world after it
abbrev pub world_with : Exchange → World → Stand → Step → World
world_with exchange world stand step = record {
  stands = slice_set world.stands (block_of step) (stand_after step stand);
  lanes = slice_set world.lanes
      (lane_number exchange.k (kind_now exchange stand) (sender_of exchange stand step))
      (moved step (due_list exchange (kind_now exchange stand) (sender_of exchange stand step))
      (uses_now exchange stand)
      (lane_of exchange.k world (kind_now exchange stand) (sender_of exchange stand step)));
}

-- a step can be taken in a world
unfoldable pub is_possible : Exchange → World → Step → Bool
is_possible exchange world step = can_step exchange world (stand_of world (block_of step)) step

-- the world after a step, whether the step can be taken or not
unfoldable pub world_after : Exchange → World → Step → World
world_after exchange world step = world_with exchange world (stand_of world (block_of step)) step

-- the world after a step that can be taken; none after a step that cannot
abbrev pub next_world : Exchange → World → Step → Option World
next_world exchange world step =
    if is_possible exchange world step then Some (world_after exchange world step) else None

-- steps, each of which can be taken, lead from one world to another
abbrev pub Lead : Exchange → List Step → World → World → Type 0
Lead exchange [] old new = new ≡ old
Lead exchange (step ∷ steps) old new =
    (world : World) × (next_world exchange old step ≡ Some world) × Lead exchange steps world new

-- a world that steps lead to from the first
pub record IsReached (exchange : Exchange) (steps : List Step) (world : World) : Type 0 where
  pub lead : Lead exchange steps (first_world exchange) world

-- the step that a block may have at its stage
abbrev pub step_at : ℕ → ℕ → Step
step_at b zero = Grip b
step_at b (suc zero) = File b
step_at b (suc (suc zero)) = Draw b
step_at b (suc (suc (suc stage))) = Clear b

-- the step of the lowest block that has one
unfoldable pub next_step : Exchange → World → Option Step
next_step exchange world =
    find (is_possible exchange world)
    (map (λ b. step_at b (stand_of world b).stage) (range_with_len 0 (2 ^ exchange.k)))
