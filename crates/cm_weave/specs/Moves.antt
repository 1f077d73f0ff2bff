-- What a step of the exchange does to a block and a lane, as code has them. Ours.
use Rattle.std.specs.Prelude.{◌≡◌, ℕ, ◌+◌, ◌<◌, ◌^◌, List, Some}
use Rattle.cm_model.specs.declared.act.Act.{Act}
use Rattle.cm_blocks.specs.Counts.{deliveries, events_in}
use Rattle.cm_blocks.specs.Parts.{Part}
use Rattle.cm_blocks.specs.Parcels.{Parcel, due}
use Rattle.cm_blocks.specs.Steps.{part_after_all, less, absorbed}
use Rattle.cm_router.specs.Logs.{HaveLogRoom, LoseAtMost}
use Rattle.cm_subcube.specs.declared.round.Round.{Round}
use Rattle.cm_subcube.specs.Blocks.{BlockView}
use Rattle.cm_subcube.specs.Rounds.{step_of}
use Rattle.cm_subcube.specs.Parcels.{blank_parcel, IsOfKind, HaveSpaceFor, HasRoomFor}
use Rattle.cm_subcube.specs.Local.{local_after, IsRoundOf}
use Rattle.cm_exchange.specs.declared.step.Step.{Step}
use Rattle.cm_exchange.specs.declared.step.Step.TheVariants.{Grip, File, Draw, Clear}
use Rattle.cm_weave.specs.declared.lane.Lane.{Lane}

-- a block can file a parcel: the lane has a blank one of this round's kind
pub record CanFile (round : Round) (block : BlockView) (lane : Lane) : Type 0 where
  pub blank : lane.parcel ≡ blank_parcel block.kept.dims block.k round.kind

-- a block can take in the parcel of a lane, and go on until the next round: room, logs and counter suffice
pub record CanClear (acts : List Act) (round : Round) (block : BlockView) (lane : Lane) : Type 0 where
  pub lanes : IsOfKind block.kept.dims block.k round.kind lane.parcel
  pub space : HasRoomFor round.kind block.kept.room block.kept.part lane.parcel
  pub log_room : HaveLogRoom (events_in block.kept.room (local_after block.kept.dims block.k acts (Some round)))
      block.kept.log_rooms
  pub clock : block.kept.part.clock + deliveries (local_after block.kept.dims block.k acts (Some round)) < 2 ^ 63

-- a block and a lane are ready for a step: gripping and drawing need nothing
abbrev pub IsReadyFor : List Act → Step → Round → BlockView → Lane → Type 0
IsReadyFor acts (Grip b) round block lane = Unit {0}
IsReadyFor acts (File b) round block lane = CanFile round block lane
IsReadyFor acts (Draw b) round block lane = Unit {0}
IsReadyFor acts (Clear b) round block lane = CanClear acts round block lane

-- a block can take a step at this round over this lane
pub record CanWeave (acts : List Act) (step : Step) (round : Round) (block : BlockView) (lane : Lane) : Type 0 where
  pub round_is : IsRoundOf block.kept.dims block.k acts round
  pub ready : IsReadyFor acts step round block lane
  pub word : lane.word < 2 ^ 31

-- the part of a block after a step
abbrev pub part_woven : ℕ → ℕ → ℕ → List Act → Step → Round → Parcel → Part → Part
part_woven n k room acts (Grip b) round parcel s = s
part_woven n k room acts (File b) round parcel s = less room (step_of round) s
part_woven n k room acts (Draw b) round parcel s = s
part_woven n k room acts (Clear b) round parcel s =
    part_after_all n room (local_after n k acts (Some round)) (absorbed n room (step_of round) parcel s)

-- the parcel of the lane after a step
abbrev pub parcel_woven : ℕ → ℕ → ℕ → Step → Round → Part → Parcel → Parcel
parcel_woven n k room (Grip b) round s parcel = parcel
parcel_woven n k room (File b) round s parcel = due n room (step_of round) s
parcel_woven n k room (Draw b) round s parcel = parcel
parcel_woven n k room (Clear b) round s parcel = blank_parcel n k round.kind

-- the most events that a step adds to a log
abbrev pub events_woven : ℕ → ℕ → ℕ → List Act → Step → Round → ℕ
events_woven n k room acts (Grip b) round = 0
events_woven n k room acts (File b) round = 0
events_woven n k room acts (Draw b) round = 0
events_woven n k room acts (Clear b) round = events_in room (local_after n k acts (Some round))

-- after a block has filed, it has space for what comes; other steps promise none
abbrev pub HasSpaceAfter : Step → Round → BlockView → BlockView → Type 0
HasSpaceAfter (Grip b) round old new = Unit {0}
HasSpaceAfter (File b) round old new = HaveSpaceFor round.kind new.kept.room new.kept.part
HasSpaceAfter (Draw b) round old new = Unit {0}
HasSpaceAfter (Clear b) round old new = Unit {0}

-- a block has taken a step at this round over this lane
pub record HasWoven (acts : List Act) (step : Step) (round : Round) (old : BlockView) (lane : Lane) (new : BlockView)
    (moved : Lane) : Type 0 where
  pub blocks : new.k ≡ old.k
  pub dims : new.kept.dims ≡ old.kept.dims
  pub room : new.kept.room ≡ old.kept.room
  pub part : new.kept.part
      ≡ part_woven old.kept.dims old.k old.kept.room acts step round lane.parcel old.kept.part
  pub log_room : LoseAtMost (events_woven old.kept.dims old.k old.kept.room acts step round)
      old.kept.log_rooms new.kept.log_rooms
  pub space : HasSpaceAfter step round old new
  pub word : moved.word ≡ lane.word + 1
  pub parcel : moved.parcel ≡ parcel_woven old.kept.dims old.k old.kept.room step round old.kept.part lane.parcel

-- a block has taken in what came over a lane, and has gone on until the next round
pub record HasCleared (acts : List Act) (round : Round) (old : BlockView) (lane : Lane) (new : BlockView)
    (cleared : Lane) : Type 0 where
  pub blocks : new.k ≡ old.k
  pub dims : new.kept.dims ≡ old.kept.dims
  pub room : new.kept.room ≡ old.kept.room
  pub part : new.kept.part
      ≡ part_after_all old.kept.dims old.kept.room (local_after old.kept.dims old.k acts (Some round))
      (absorbed old.kept.dims old.kept.room (step_of round) lane.parcel old.kept.part)
  pub log_room : LoseAtMost (events_in old.kept.room (local_after old.kept.dims old.k acts (Some round)))
      old.kept.log_rooms new.kept.log_rooms
  pub word : cleared.word ≡ lane.word
  pub parcel : cleared.parcel ≡ blank_parcel old.kept.dims old.k round.kind
