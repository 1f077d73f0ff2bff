-- The world of a machine's run as code keeps it: blocks on their way, where they stand, and lanes. Ours.
use Rattle.std.specs.Prelude.{◌≡◌, ℕ, zero, suc, ◌+◌, ◌-◌, ◌/◌, ◌%◌, ◌<◌, ◌≤◌, ◌^◌, true, List, Option, Some, None}
use Rattle.std.specs.Prelude.{length, map, get_or, slice_get, nat_lt, if◌then◌else◌}
use Rattle.cm_model.specs.declared.act.Act.{Act}
use Rattle.cm_model.specs.Machine.{Machine}
use Rattle.cm_model.specs.Steps.{Phase}
use Rattle.cm_blocks.specs.Counts.{deliveries, events_in}
use Rattle.cm_blocks.specs.Parts.{Part}
use Rattle.cm_blocks.specs.Parcels.{Parcel}
use Rattle.cm_blocks.specs.Rounds.{rounds, steps_after_round}
use Rattle.cm_router.specs.Logs.{HaveLogRoom}
use Rattle.cm_subcube.specs.declared.round.Round.{Round}
use Rattle.cm_subcube.specs.Blocks.{BlockView}
use Rattle.cm_subcube.specs.Rounds.{kind_of, rounds_of}
use Rattle.cm_subcube.specs.Parcels.{blank_parcel, HaveSpaceFor}
use Rattle.cm_exchange.specs.declared.stand.Stand.{Stand}
use Rattle.cm_exchange.specs.declared.step.Step.{Step}
use Rattle.cm_exchange.specs.Lanes.{Exchange, exchange_of, round_count}
use Rattle.cm_exchange.specs.Worlds.{World, at_first, stand_of}
use Rattle.cm_exchange.specs.Steps.{IsReached}
use Rattle.cm_exchange.specs.Worlds as worlds
use Rattle.cm_weave.specs.declared.lane.Lane.{Lane}
use Rattle.cm_weave.specs.Kinds.{kind_numbered}
use Rattle.cm_weave.specs.Parts.{part_at_stand}

-- what contracts see of a lane: its parcel, where it is full or held by its receiver
abbrev pub lane_seen : Lane → worlds.Lane
lane_seen lane = record {
  word = lane.word;
  parcel = if nat_lt (lane.word % 4) 2 then None else Some lane.parcel;
}

-- what contracts see of a world: where each block stands, and each lane as `lane_seen` has it
abbrev pub world_seen : List Stand → List Lane → World
world_seen stands lanes = record { stands = stands; lanes = map lane_seen lanes }

-- what contracts see of a world: into 2 ^ k blocks the machine was cut, the machine and the acts of the run,
-- where it stands, and what each block has
pub record Woven : Type 0 where
  pub k : ℕ
  pub machine : Machine
  pub acts : List Act
  pub world : World
  pub parts : List Part

-- some steps lead there
pub record IsSomehowReached (exchange : Exchange) (world : World) : Type 0 where
  pub steps : List Step
  pub is : IsReached exchange steps world

-- once a block has filed there is room in it for what comes, wherever a wire is not cut
abbrev pub HasSpaceIn : ℕ → ℕ → Option Phase → Part → Type 0
HasSpaceIn room zero one s = Unit {0}
HasSpaceIn room (suc zero) one s = Unit {0}
HasSpaceIn room (suc (suc stage)) None s = Unit {0}
HasSpaceIn room (suc (suc stage)) (Some phase) s = HaveSpaceFor (kind_of phase.step) room s

-- block b where it stands
pub record StandsThere (n cap k : ℕ) (machine : Machine) (acts : List Act) (b : ℕ) (stand : Stand)
    (block : BlockView) : Type 0 where
  pub blocks : block.k ≡ k
  pub dims : block.kept.dims ≡ n
  pub room : block.kept.room ≡ cap
  pub part : block.kept.part ≡ part_at_stand n cap k machine acts b stand
  pub space : HasSpaceIn cap stand.stage (slice_get (rounds n k acts) stand.round) block.kept.part
  pub log_room : HaveLogRoom (events_in cap (steps_after_round n k acts stand.round)) block.kept.log_rooms
  pub clock : block.kept.part.clock + deliveries (steps_after_round n k acts stand.round) < 2 ^ 63

-- nothing in it, by the number of a kind
abbrev pub blank_of : ℕ → ℕ → ℕ → Parcel
blank_of n k number = blank_parcel n k (kind_numbered n k number)

-- lanes that are not full, and that no receiver holds, have nothing in them
abbrev pub AreBlank : ℕ → ℕ → List Lane → Type 0
AreBlank n k lanes = (i : ℕ) (d : Lane) → i < length lanes → nat_lt ((get_or lanes i d).word % 4) 2 ≡ true
    → (get_or lanes i d).parcel ≡ blank_of n k (i / 2 ^ k)

-- what is kept is a world of the run
pub record AreWoven (n cap k : ℕ) (machine : Machine) (acts : List Act) (rounds_kept : List Round)
    (blocks : List BlockView) (stands : List Stand) (lanes : List Lane) : Type 0 where
  pub few : n ≤ 12
  pub within : k ≤ n - n / 2
  pub rounds_are : rounds_kept ≡ rounds_of n k acts
  pub few_rounds : length rounds_kept ≤ 2 ^ 20
  pub reached : IsSomehowReached (exchange_of n cap k machine acts) (world_seen stands lanes)
  pub block_count : length blocks ≡ 2 ^ k
  pub each : (b : ℕ) (d : BlockView) → b < 2 ^ k
      → StandsThere n cap k machine acts b (get_or stands b at_first) (get_or blocks b d)
  pub blank : AreBlank n k lanes

-- what callers are told of every world of a run: some steps lead there from the first, and each block is what the run
-- makes of it until its stage of its round
pub record IsOnItsWay (n cap : ℕ) (woven : Woven) : Type 0 where
  pub few : n ≤ 12
  pub within : woven.k ≤ n - n / 2
  pub few_rounds : round_count (exchange_of n cap woven.k woven.machine woven.acts) ≤ 2 ^ 20
  pub reached : IsSomehowReached (exchange_of n cap woven.k woven.machine woven.acts) woven.world
  pub count : length woven.parts ≡ 2 ^ woven.k
  pub parts : (b : ℕ) (d : Part) → b < 2 ^ woven.k
      → get_or woven.parts b d ≡ part_at_stand n cap woven.k woven.machine woven.acts b (stand_of woven.world b)
