-- A world as it begins: blocks that were cut and went by themselves to their first round, and empty lanes. Ours.
use Rattle.std.specs.Prelude.{◌≡◌, ℕ, ◌+◌, ◌*◌, ◌/◌, ◌<◌, ◌≤◌, ◌^◌, List, None, length, get_or, map}
use Rattle.cm_model.specs.declared.act.Act.{Act}
use Rattle.cm_model.specs.Machine.{Machine}
use Rattle.cm_blocks.specs.Counts.{deliveries, events_in}
use Rattle.cm_blocks.specs.Parts.{block}
use Rattle.cm_blocks.specs.Rounds.{steps_after_round, before_round}
use Rattle.cm_blocks.specs.Steps.{part_after_all}
use Rattle.cm_router.specs.Logs.{HaveLogRoom}
use Rattle.cm_array.specs.Acts.{cycles_in}
use Rattle.cm_subcube.specs.Blocks.{BlockView}
use Rattle.cm_subcube.specs.Laws.{all_blocks}
use Rattle.cm_subcube.specs.Local.{local_after}
use Rattle.cm_exchange.specs.Lanes.{exchange_of}
use Rattle.cm_exchange.specs.Worlds.{first_world}
use Rattle.cm_weave.specs.declared.first.Prepared.{Prepared}
use Rattle.cm_weave.specs.declared.lane.Lane.{Lane}
use Rattle.cm_weave.specs.Woven.{Woven, world_seen, blank_of, AreWoven}

-- a block that was cut out, with room in its logs for a whole run
pub record IsFirstBlock (n cap k : ℕ) (machine : Machine) (acts : List Act) (b : ℕ) (one : BlockView) : Type 0 where
  pub blocks : one.k ≡ k
  pub dims : one.kept.dims ≡ n
  pub room : one.kept.room ≡ cap
  pub part : one.kept.part ≡ block n k b machine
  pub log_room : HaveLogRoom (cycles_in acts * (4 + cap)) one.kept.log_rooms
  pub clock : one.kept.part.clock + cycles_in acts < 2 ^ 63

-- one that has gone by itself until the first round, with room for what is ahead of it
pub record HasBegun (n cap k : ℕ) (machine : Machine) (acts : List Act) (b : ℕ) (one : BlockView) : Type 0 where
  pub blocks : one.k ≡ k
  pub dims : one.kept.dims ≡ n
  pub room : one.kept.room ≡ cap
  pub part : one.kept.part ≡ part_after_all n cap (local_after n k acts None) (block n k b machine)
  pub log_room : HaveLogRoom (events_in cap (steps_after_round n k acts 0)) one.kept.log_rooms
  pub clock : one.kept.part.clock + deliveries (steps_after_round n k acts 0) < 2 ^ 63

-- of the blocks of a machine, those below a number have begun
pub record AreBeginning (n cap k : ℕ) (machine : Machine) (acts : List Act) (first : ℕ) (blocks : List BlockView)
    : Type 0 where
  pub count : length blocks ≡ 2 ^ k
  pub begun : (b : ℕ) (d : BlockView) → b < first → b < 2 ^ k → HasBegun n cap k machine acts b (get_or blocks b d)
  pub cut : (b : ℕ) (d : BlockView) → first ≤ b → b < 2 ^ k → IsFirstBlock n cap k machine acts b (get_or blocks b d)

-- the lane of a number, not used yet
pub record IsUnused (n k i : ℕ) (lane : Lane) : Type 0 where
  pub word : lane.word ≡ 0
  pub parcel : lane.parcel ≡ blank_of n k (i / 2 ^ k)

-- so many of them
pub record AreUnused (n k count : ℕ) (lanes : List Lane) : Type 0 where
  pub len : length lanes ≡ count
  pub each : (i : ℕ) (d : Lane) → i < length lanes → IsUnused n k i (get_or lanes i d)

-- what a world of a run begins with
pub record IsPrepared (n cap k : ℕ) (machine : Machine) (acts : List Act) (begun : Prepared) : Type 0 where
  pub acts_are : begun.acts.items ≡ acts
  pub woven : AreWoven n cap k machine begun.acts.items begun.rounds.items begun.blocks.items begun.stands.items
      begun.lanes.items
  pub world : world_seen begun.stands.items begun.lanes.items ≡ first_world (exchange_of n cap k machine acts)
  pub parts : map (λ b. b.kept.part) begun.blocks.items ≡ all_blocks n k (before_round n cap k machine acts 0)

-- the world of a run as callers get it first
pub record IsFirst (n cap k : ℕ) (machine : Machine) (acts : List Act) (woven : Woven) : Type 0 where
  pub blocks : woven.k ≡ k
  pub machine_is : woven.machine ≡ machine
  pub acts_are : woven.acts ≡ acts
  pub world : woven.world ≡ first_world (exchange_of n cap k machine acts)
  pub parts : woven.parts ≡ all_blocks n k (before_round n cap k machine acts 0)
