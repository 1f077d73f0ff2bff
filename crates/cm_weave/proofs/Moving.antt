-- Steps of a block with a lane.
use Rattle.std.proofs.Common.{◌≡◌, ℕ, ◌+◌, ◌<◌, ◌^◌, Bool, List, Some, sym, refl, subst}
use Rattle.cm_model.specs.declared.act.Act.{Act}
use Rattle.cm_model.specs.Steps.{Step as Phased, Instruct, Look, Inject, Cross, Deliver}
use Rattle.cm_blocks.specs.Counts.{deliveries, events_in}
use Rattle.cm_blocks.specs.Parts.{Part}
use Rattle.cm_blocks.specs.Parcels.{Parcel}
use Rattle.cm_blocks.specs.Steps.{part_after, absorbed}
use Rattle.cm_router.specs.Logs.{HaveLogRoom}
use Rattle.cm_subcube.specs.declared.round.Round.{Round}
use Rattle.cm_subcube.specs.Blocks.{BlockView}
use Rattle.cm_subcube.specs.Rounds.{step_of}
use Rattle.cm_subcube.specs.Local.{local_after}
use Rattle.cm_weave.specs.declared.lane.Lane.{Lane}
use Rattle.cm_weave.specs.Moves.{CanClear}

-- the counter stands still while a parcel is taken in
pub clock_stands : (n room : ℕ) (step : Phased) (parcel : Parcel) (s : Part)
    → (absorbed n room step parcel s).clock ≡ s.clock
unfolding absorbed part_after
clock_stands n room (Instruct nano) parcel s = refl
clock_stands n room Look parcel s = refl
clock_stands n room Inject parcel s = refl
clock_stands n room (Cross d) parcel s = refl
clock_stands n room Deliver parcel s = refl

-- a block with some part, otherwise as it was
abbrev pub with_part : BlockView → Part → Bool → BlockView
with_part block s gathered = record {
  k = block.k;
  kept = record block.kept { part = s; gathered = gathered };
}

pub is_with_part : (old new : BlockView) (s : Part) (gathered : Bool)
    → new.kept ≡ record old.kept { part = s; gathered = gathered } → new.k ≡ old.k → new ≡ with_part old s gathered
is_with_part old new s gathered is blocks = λ i. record { k = blocks i; kept = is i }

-- a block that has taken in what came can go on by itself
pub still_room : (acts : List Act) (round : Round) (old : BlockView) (lane : Lane) (new : BlockView) (gathered : Bool)
    → new ≡ with_part old (absorbed old.kept.dims old.kept.room (step_of round) lane.parcel old.kept.part) gathered
    → CanClear acts round old lane
    → HaveLogRoom (events_in new.kept.room (local_after new.kept.dims new.k acts (Some round))) new.kept.log_rooms
    × (new.kept.part.clock + deliveries (local_after new.kept.dims new.k acts (Some round)) < 2 ^ 63)
still_room acts round old lane new gathered is can =
    subst (λ (z : BlockView).
    HaveLogRoom (events_in z.kept.room (local_after z.kept.dims z.k acts (Some round))) z.kept.log_rooms
    × (z.kept.part.clock + deliveries (local_after z.kept.dims z.k acts (Some round)) < 2 ^ 63)) (sym is) (
      can.log_room,
      subst (λ (z : ℕ). z + deliveries (local_after old.kept.dims old.k acts (Some round)) < 2 ^ 63)
          (sym (clock_stands old.kept.dims old.kept.room (step_of round) lane.parcel old.kept.part)) can.clock,
    )
