-- The world of an exchange: where each block stands and what each lane carries. Ours.
use Rattle.std.specs.Prelude.{◌≡◌, ℕ, ◌+◌, ◌*◌, ◌/◌, ◌%◌, ◌^◌, nat_lt, List, Option, None, replicate}
use Rattle.std.specs.Prelude.{slice_index_or, slice_get, if◌then◌else◌}
use Rattle.std.specs.List.{All}
use Rattle.cm_blocks.specs.Parcels.{Parcel}
use Rattle.cm_exchange.specs.declared.stand.Stand.{Stand}
use Rattle.cm_exchange.specs.Lanes.{Exchange, round_count, kind_count}

-- what a lane carries, and its word: four for each use of it that is over, and then
-- 0: it is empty; 1: its sender holds it; 2: it is full; 3: its receiver holds it
pub record Lane : Type 0 where
  pub word : ℕ
  pub parcel : Option Parcel

-- each block, and each lane by its kind and sender
pub record World : Type 0 where
  pub stands : List Stand
  pub lanes : List Lane

-- where a block stands at the beginning: at stage 0 of its first round
abbrev pub at_first : Stand
at_first = record { round = 0; stage = 0 }

-- a lane at the beginning: it is empty, and nothing was sent over it
abbrev pub unused_lane : Lane
unused_lane = record { word = 0; parcel = None }

-- the world at the beginning: 2 ^ k blocks at their first round, and all lanes empty
unfoldable pub first_world : Exchange → World
first_world exchange = record {
  stands = replicate (2 ^ exchange.k) at_first;
  lanes = replicate (kind_count exchange.k * 2 ^ exchange.k) unused_lane;
}

-- where block b stands
abbrev pub stand_of : World → ℕ → Stand
stand_of world b = slice_index_or world.stands b at_first

-- the index among all lanes of the lane of a kind and a sender: each kind has 2 ^ k lanes, one for a sender
abbrev pub lane_number : ℕ → ℕ → ℕ → ℕ
lane_number k kind b = kind * 2 ^ k + b

-- the lane of a kind and a sender, in a world of 2 ^ k blocks
abbrev pub lane_of : ℕ → World → ℕ → ℕ → Lane
lane_of k world kind b = slice_index_or world.lanes (lane_number k kind b) unused_lane

-- what a lane holds, by its word: what is due in this use where it is full or its receiver holds it, else nothing
abbrev pub held_by : List Parcel → ℕ → Option Parcel
held_by dues word = if nat_lt (word % 4) 2 then None else slice_get dues (word / 4)

-- every block is through all rounds
abbrev pub IsFinished : Exchange → World → Type 0
IsFinished exchange world = All (λ stand. stand.round ≡ round_count exchange) world.stands
