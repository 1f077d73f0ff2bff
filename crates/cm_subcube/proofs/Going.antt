-- Blocks that go through steps by themselves.
use Rattle.std.proofs.Common.{◌≡◌, ℕ, ◌+◌, Bool, cond, List, [], ◌∷◌, ◌++◌, refl, sym, ◌∙◌}
use Rattle.std.proofs.Common.{ap, arith}
use Rattle.std.proofs.lemmas.List.Sums.{sum_by-cons, sum_by-append}
use Rattle.cm_model.specs.declared.act.Nano.{Nano}
use Rattle.cm_model.specs.Each.{tabulate}
use Rattle.cm_model.specs.Steps.{Step, Instruct, Look, Inject, Cross, Deliver}
use Rattle.cm_blocks.specs.Counts.{is_injection, is_delivery, deliveries, events_in}
use Rattle.cm_blocks.specs.Parts.{Part}
use Rattle.cm_blocks.specs.Parcels.{Parcel, Blank, Edge}
use Rattle.cm_blocks.specs.Steps.{part_after, part_after_all, incoming_in}
use Rattle.cm_news.specs.Bands.{edge_bits}
use Rattle.cm_router.specs.Logs.{LoseAtMost}
use Rattle.cm_router.proofs.Rooms.{lost_nothing}
use Rattle.cm_array.specs.Cuts.{PartView}
use Rattle.cm_subcube.specs.Blocks.{BlockView, IsBlock, CanGo, HasGone}
use Rattle.std.proofs.Math.Nat.{mul-add}

-- ---- what a step keeps

part_after-kept : (n cap : ℕ) (step : Step) (parcel : Parcel) (s : Part)
    → ((part_after n cap step parcel s).first ≡ s.first) × ((part_after n cap step parcel s).count ≡ s.count)
    × ((part_after n cap step parcel s).clock ≡ s.clock + cond (is_delivery step) 1 0)
unfolding part_after
part_after-kept n cap (Instruct nano) parcel s = (refl, refl, omega arith)
part_after-kept n cap Look parcel s = (refl, refl, omega arith)
part_after-kept n cap Inject parcel s = (refl, refl, omega arith)
part_after-kept n cap (Cross d) parcel s = (refl, refl, omega arith)
part_after-kept n cap Deliver parcel s = (refl, refl, refl)

part_after_all-clock : (n cap : ℕ) (steps : List Step) (s : Part)
    → (part_after_all n cap steps s).clock ≡ s.clock + deliveries steps
part_after_all-clock n cap [] s = omega arith
part_after_all-clock n cap (step ∷ steps) s =
    let more = part_after_all-clock n cap steps (part_after n cap step Blank s) in
    let count = sum_by-cons (λ (x : Step). cond (is_delivery x) 1 0) step steps in
    omega (arith, (part_after-kept n cap step Blank s).2, more, count)

part_after_all-append : (n cap : ℕ) (first second : List Step) (s : Part)
    → part_after_all n cap (first ++ second) s ≡ part_after_all n cap second (part_after_all n cap first s)
part_after_all-append n cap [] second s = refl
part_after_all-append n cap (step ∷ first) second s =
    part_after_all-append n cap first second (part_after n cap step Blank s)

events_in-append : (room : ℕ) (first second : List Step)
    → events_in room (first ++ second) ≡ events_in room first + events_in room second
events_in-append room first second =
    let i = sum_by-append (λ (x : Step). cond (is_injection x) 1 0) first second in
    let d = sum_by-append (λ (x : Step). cond (is_delivery x) 1 0) first second in
    grind (arith, i, d, mul-add room (deliveries first) (deliveries second))

-- ---- one step

-- what is kept after a step that reads no parcel
abbrev pub stepped : Step → List ℕ → Bool → PartView → PartView
stepped step rooms gathered old = record old {
  part = part_after old.dims old.room step Blank old.part;
  log_rooms = rooms;
  gathered = gathered;
}

-- a block stays a block
pub IsBlock-stepped : (k : ℕ) (step : Step) (rooms : List ℕ) (gathered : Bool) (old new : PartView)
    → new ≡ stepped step rooms gathered old → IsBlock k old → IsBlock k new
IsBlock-stepped k step rooms gathered old new is was =
    let part = part_after-kept old.dims old.room step Blank old.part in
    rw is (record {
      within = was.within;
      count = part.1 ∙ was.count;
      band = (was.band.0, (part.0 ∙ was.band.1.0, was.band.1.1));
    })

-- and has gone through the step
pub HasGone-one : (k : ℕ) (step : Step) (rooms : List ℕ) (gathered : Bool) (old new : PartView) (seen : BlockView)
    → record { k = k; kept = old } ≡ seen → new ≡ stepped step rooms gathered old
    → LoseAtMost (events_in old.room (step ∷ [])) old.log_rooms rooms
    → HasGone (step ∷ []) seen (record { k = k; kept = new })
HasGone-one k step rooms gathered old new seen view is lost =
    rw (← view, is) (record { part = refl; dims = refl; room = refl; blocks = refl; log_room = lost })

-- an instruction with an edge that is not there is one at which no parcel comes
pub no_edge : (n cap : ℕ) (nano : Nano) (s : Part)
    → part_after n cap (Instruct nano) (Edge (edge_bits [])) s ≡ part_after n cap (Instruct nano) Blank s
unfolding part_after incoming_in tabulate
no_edge n cap nano s = refl

-- a look changes nothing
pub HasGone-look : (block : BlockView) → HasGone (Look ∷ []) block block
unfolding part_after
HasGone-look block = record {
  part = refl;
  dims = refl;
  room = refl;
  blocks = refl;
  log_room = lost_nothing (events_in block.kept.room (Look ∷ [])) block.kept.log_rooms;
}

-- ---- steps one after another

pub HasGone-none : (block : BlockView) → HasGone [] block block
HasGone-none block = record {
  part = refl;
  dims = refl;
  room = refl;
  blocks = refl;
  log_room = lost_nothing (events_in block.kept.room []) block.kept.log_rooms;
}

pub HasGone-append : (first second : List Step) (old mid new : BlockView) → HasGone first old mid
    → HasGone second mid new
    → HasGone (first ++ second) old new
HasGone-append first second old mid new before after =
    let n = old.kept.dims in
    let cap = old.kept.room in
    let sum = events_in-append cap first second in
    let same = ap (λ (room : ℕ). events_in room second) before.room in
    record {
      part = after.part
          ∙ (λ i. part_after_all (before.dims i) (before.room i) second (before.part i))
          ∙ sym (part_after_all-append n cap first second old.kept.part);
      dims = after.dims ∙ before.dims;
      room = after.room ∙ before.room;
      blocks = after.blocks ∙ before.blocks;
      log_room = record {
        same = after.log_room.same ∙ before.log_room.same;
        few = λ i l. grind (arith, sum, same, before.log_room.few i, after.log_room.few i, before.log_room.same);
      };
    }

-- what can go through some steps can go through the first of them
pub CanGo-first : (first second : List Step) (block : BlockView) → CanGo (first ++ second) block → CanGo first block
CanGo-first first second block can =
    let sum = events_in-append block.kept.room first second in
    let count = sum_by-append (λ (x : Step). cond (is_delivery x) 1 0) first second in
    record { log_room = λ i l. grind (arith, sum, can.log_room i); clock = omega (arith, count, can.clock) }

-- and then through the others
pub CanGo-second : (first second : List Step) (old mid : BlockView) → CanGo (first ++ second) old
    → HasGone first old mid
    → CanGo second mid
CanGo-second first second old mid can gone =
    let cap = old.kept.room in
    let sum = events_in-append cap first second in
    let same = ap (λ (room : ℕ). events_in room second) gone.room in
    let count = sum_by-append (λ (x : Step). cond (is_delivery x) 1 0) first second in
    let clock = ap (λ (s : Part). s.clock) gone.part ∙ part_after_all-clock old.kept.dims cap first old.kept.part in
    record {
      log_room = λ i l. grind (arith, sum, same, can.log_room i, gone.log_room.few i, gone.log_room.same);
      clock = omega (arith, count, clock, can.clock);
    }
