-- A step that can be taken leads from one world of a run to the next.
use Rattle.std.proofs.Common.{◌≡◌, ◌≢◌, ℕ, suc, ◌+◌, ◌-◌, ◌*◌, ◌/◌, ◌%◌, ◌<◌, ◌≤◌, ◌^◌, ⊎_elim}
use Rattle.std.proofs.Common.{true, false, List, [], ◌∷◌, ◌++◌, Option, Some, None, length, map, get_or}
use Rattle.std.proofs.Common.{set}
use Rattle.std.proofs.Common.{refl, ap, sym, subst, ◌∙◌, arith}
use Rattle.std.specs.Prelude.{slice_get, nat_lt}
use Rattle.std.proofs.lemmas.Bool.{cases_eq}
use Rattle.std.proofs.lemmas.Bool.Decides.{nat_tests}
use Rattle.std.proofs.lemmas.List.{length-map, get_or-map, map-set, length-set, get_or-set_same, get_or-set_other}
use Rattle.std.proofs.lemmas.Nat.{div-mul-add}
use Rattle.cm_model.specs.declared.act.Act.{Act}
use Rattle.cm_model.specs.Machine.{Machine}
use Rattle.cm_model.specs.Steps.{Phase}
use Rattle.cm_model.specs.Steps as phased
use Rattle.cm_blocks.specs.Counts.{deliveries, events_in}
use Rattle.cm_blocks.specs.Parts.{Part, part, block}
use Rattle.cm_blocks.specs.Parcels.{Parcel, due, sender as from_block}
use Rattle.cm_blocks.specs.Rounds.{rounds, before_round, steps_between, steps_after_round}
use Rattle.cm_blocks.specs.Steps.{part_after_all, less, absorbed}
use Rattle.cm_router.specs.Logs.{HaveLogRoom, LoseAtMost}
use Rattle.cm_router.proofs.Rooms.{room_left, less_room}
use Rattle.cm_subcube.specs.declared.round.Kind.{Kind}
use Rattle.cm_subcube.specs.declared.round.Kind.TheVariants as kind
use Rattle.cm_subcube.specs.declared.round.Round.{Round}
use Rattle.cm_subcube.specs.Blocks.{BlockView}
use Rattle.cm_subcube.specs.Rounds.{round_of, step_of}
use Rattle.cm_subcube.specs.Parcels.{blank_parcel, IsOfKind, HaveSpaceFor, SparesCuts}
use Rattle.cm_subcube.specs.Local.{local_after, IsRoundOf}
use Rattle.cm_subcube.proofs.Counting.{deliveries_shared, events_shared}
use Rattle.cm_subcube.proofs.Sparing.{cuts_are_spared, room_for}
use Rattle.cm_exchange.specs.declared.stand.Stand.{Stand}
use Rattle.cm_exchange.specs.declared.step.Step.{Step}
use Rattle.cm_exchange.specs.declared.step.Step.TheVariants.{Grip, File, Draw, Clear}
use Rattle.cm_exchange.specs.Lanes.{Exchange, exchange_of, due_from, due_list, giver, kind_at, kind_count, round_count}
use Rattle.cm_exchange.specs.Lanes.{uses}
use Rattle.cm_exchange.specs.Worlds.{World, at_first, unused_lane, stand_of, lane_of, lane_number, held_by, first_world}
use Rattle.cm_exchange.specs.Steps.{block_of, stage_of, kind_now, uses_now, sender_of, stand_after, moved, is_possible}
use Rattle.cm_exchange.specs.Steps.{world_after, next_world, Lead}
use Rattle.cm_exchange.specs.Worlds as worlds
use Rattle.cm_exchange.specs.Lanes as lane_kinds
use Rattle.cm_exchange.specs.Laws.{HasItsKinds, AreTold}
use Rattle.cm_exchange.proofs.Partners.{lanes_have_two_ends}
use Rattle.cm_exchange.proofs.Uses.{rounds_are_due_in_order}
use Rattle.cm_exchange.proofs.Rules.{held-full}
use Rattle.cm_exchange.proofs.Soundness.{IsSound, Can, can, reached-sound, lane-within}
use Rattle.cm_exchange.proofs.Words.{words_tell_steps}
use Rattle.cm_weave.specs.declared.lane.Lane.{Lane}
use Rattle.cm_weave.specs.Kinds.{round_kind_number}
use Rattle.cm_weave.specs.Parts.{at_stage, part_at_stand, part_with}
use Rattle.cm_weave.specs.Moves.{CanWeave, IsReadyFor, HasWoven, part_woven, parcel_woven}
use Rattle.cm_weave.specs.Moves.{events_woven}
use Rattle.cm_weave.specs.Moves.{HasSpaceAfter}
use Rattle.cm_weave.specs.Woven.{lane_seen, world_seen, IsSomehowReached, HasSpaceIn, StandsThere, blank_of, AreBlank}
use Rattle.cm_weave.specs.Woven.{AreWoven}
use Rattle.cm_subcube.proofs.Clocks.{clock_after_all, clock_left, due_of_kind}
use Rattle.cm_weave.proofs.Givers.{kind_is_number, giver_is_sender}
use Rattle.cm_weave.proofs.Following.{IsRoundAt, round_at, count-rounds, exchange_is, blocks_follow}
use Rattle.cm_weave.proofs.Moving.{clock_stands}

-- ---- small facts

-- the kind of a lane by its number among all
pub kind_of_lane : (k number b : ℕ) → b < 2 ^ k → lane_number k number b / 2 ^ k ≡ number
kind_of_lane k number b below = div-mul-add number (2 ^ k) b below

-- what is blank in a round of a kind
pub blank_number : (n k : ℕ) (round : Kind) → blank_of n k (round_kind_number n k round) ≡ blank_parcel n k round
blank_number n k kind.North = refl
blank_number n k kind.South = refl
blank_number n k (kind.Dim d) =
    ap (blank_of n k) (let two : 2 + (d - (n - k)) ≡ suc (suc (d - (n - k))) = omega arith in two)

-- a lane as contracts see it
seen_empty : (l : Lane) → l.word % 4 < 2 → (lane_seen l).parcel ≡ None
seen_empty l h = let t : nat_lt (l.word % 4) 2 ≡ true = grind (arith, nat_tests) in rw t refl

seen_full : (l : Lane) → 2 ≤ l.word % 4 → (lane_seen l).parcel ≡ Some l.parcel
seen_full l h = let t : nat_lt (l.word % 4) 2 ≡ false = grind (arith, nat_tests) in rw t refl

below_two : (word count rest : ℕ) → word ≡ 4 * count + rest → rest < 2 → word % 4 < 2
below_two word count rest e l = omega (arith, e, l)

from_two : (word count rest : ℕ) → word ≡ 4 * count + rest → 2 ≤ rest → rest < 4 → 2 ≤ word % 4
from_two word count rest e l m = omega (arith, e, l, m)

is_below_two : (x : ℕ) → x < 2 → nat_lt x 2 ≡ true
is_below_two x h = grind (arith, nat_tests)

some_same : {X : Type 0} (x y : X) → Some x ≡ Some y → x ≡ y
some_same {X} x y e = ap or_else e where
  or_else : Option X → X
  or_else (Some z) = z
  or_else None = x

lead_more : (exchange : Exchange) (steps : List Step) (old now then : World) (step : Step) → Lead exchange steps old now
    → next_world exchange now step ≡ Some then → Lead exchange (steps ++ step ∷ []) old then
lead_more exchange [] old now then step lead next =
    (then, subst (λ (z : World). next_world exchange z step ≡ Some then) lead next, refl)
lead_more exchange (one ∷ steps) old now then step lead next =
    (lead.0, lead.1, lead_more exchange steps lead.0 now then step lead.2 next)

pub reached_more : (exchange : Exchange) (now then : World) (step : Step) → IsSomehowReached exchange now
    → is_possible exchange now step ≡ true → then ≡ world_after exchange now step
    → IsSomehowReached exchange then
reached_more exchange now then step reached possible is = record {
  steps = reached.steps ++ step ∷ [];
  is = record {
    lead = lead_more exchange reached.steps (first_world exchange) now then step reached.is.lead
        (rw possible (ap Some (sym is)));
  };
}

module _ (n cap k : ℕ) (machine : Machine) (acts : List Act) (rounds_kept : List Round) (blocks : List BlockView)
    (stands : List Stand) (lanes : List Lane) (w : AreWoven n cap k machine acts rounds_kept blocks stands lanes) where
  abbrev exchange : Exchange
  exchange = exchange_of n cap k machine acts

  abbrev world : World
  world = world_seen stands lanes

  pub is_exchange : HasItsKinds exchange
  is_exchange = exchange_is n cap k machine acts (let h = w.within in omega (arith, h))

  pub sound : IsSound exchange world
  sound = reached-sound exchange w.reached.steps world is_exchange w.reached.is

  pub told : (step : Step) → AreTold exchange world step
  told step = words_tell_steps exchange w.reached.steps world step is_exchange w.reached.is

  pub lane_count : length lanes ≡ kind_count k * 2 ^ k
  lane_count = sym (length-map lanes lane_seen) ∙ sound.lane_count

  -- the lane of a place as contracts see it
  pub seen-at : (i : ℕ) (d : Lane) → i < length lanes → get_or (map lane_seen lanes) i unused_lane
      ≡ lane_seen (get_or lanes i d)
  seen-at i d below = get_or-map lane_seen lanes i d unused_lane below

  module _ (step : Step) (possible : is_possible exchange world step ≡ true) where
    abbrev b : ℕ
    b = block_of step

    abbrev stand : Stand
    stand = stand_of world b

    abbrev number : ℕ
    number = kind_now exchange stand

    abbrev sender : ℕ
    sender = sender_of exchange stand step

    abbrev at : ℕ
    at = lane_number k number sender

    pub able : Can exchange world stand step
    unfolding is_possible
    able = can exchange world stand step possible

    pub there : IsRoundAt n cap k machine acts stand.round
    there = round_at n cap k machine acts stand.round
        (subst (λ (z : ℕ). stand.round < z) (count-rounds n cap k machine acts) able.within)

    sender_below : sender < 2 ^ k
    sender_below = by_step step able.below where
      by_step : (s : Step) → block_of s < 2 ^ k → sender_of exchange stand s < 2 ^ k
      by_step (Grip x) l = l
      by_step (File x) l = l
      by_step (Draw x) l = (lanes_have_two_ends k number (is_exchange.kinds stand.round able.within)).gives x l
      by_step (Clear x) l = (lanes_have_two_ends k number (is_exchange.kinds stand.round able.within)).gives x l

    pub at_below : at < length lanes
    at_below = subst (λ (z : ℕ). at < z) (sym lane_count)
        (lane-within k number sender (is_exchange.kinds stand.round able.within) sender_below)

    -- the word of the lane
    pub word : (d : Lane) → (get_or lanes at d).word ≡ 4 * uses_now exchange stand + stage_of step
    word d = sym (ap (λ (z : worlds.Lane). z.word) (seen-at at d at_below))
        ∙ (told step).stage possible

    -- a block's own sizes are those of the cut
    module _ (d : BlockView) (e : Lane) where
      abbrev old : BlockView
      old = get_or blocks b d

      abbrev lane : Lane
      lane = get_or lanes at e

      abbrev round : Round
      round = round_of there.phase

      stood : StandsThere n cap k machine acts b stand old
      stood = w.each b d able.below

      as_own : (P : ℕ → ℕ → ℕ → Type 0) → P n k cap → P old.kept.dims old.k old.kept.room
      as_own P p = subst (λ (z : ℕ). P z old.k old.kept.room) (sym stood.dims)
          (subst (λ (z : ℕ). P n z old.kept.room) (sym stood.blocks)
          (subst (λ (z : ℕ). P n k z) (sym stood.room) p))

      of_own : (P : ℕ → ℕ → ℕ → Type 0) → P old.kept.dims old.k old.kept.room → P n k cap
      of_own P p = subst (λ (z : ℕ). P n k z) stood.room
          (subst (λ (z : ℕ). P n z old.kept.room) stood.blocks
          (subst (λ (z : ℕ). P z old.k old.kept.room) stood.dims p))

      dues_at : slice_get (due_list exchange number sender) (uses_now exchange stand)
          ≡ Some (exchange.sent stand.round sender)
      dues_at = sym (rounds_are_due_in_order exchange stand.round sender able.within)

      -- what a full lane holds
      full_holds : 2 ≤ stage_of step → stage_of step < 4 → lane.parcel ≡ exchange.sent stand.round sender
      full_holds low high =
          let count : ℕ = uses_now exchange stand in
          let seen : lane_of k world number sender ≡ lane_seen lane = seen-at at e at_below in
          let held = sound.held number sender (is_exchange.kinds stand.round able.within) sender_below in
          let seen_word : (lane_of k world number sender).word ≡ 4 * count + stage_of step =
          (told step).stage possible in
          some_same lane.parcel (exchange.sent stand.round sender)
          (sym (seen_full lane (from_two lane.word count (stage_of step) (word e) low high))
          ∙ sym (ap (λ (z : worlds.Lane). z.parcel) seen) ∙ held
          ∙ held-full (due_list exchange number sender) count (lane_of k world number sender).word (stage_of step)
          seen_word low high
          ∙ dues_at)

      -- what is blank in the lane
      number_is : number ≡ round_kind_number n k round.kind
      number_is = there.number ∙ kind_is_number n k there.phase.step

      blank_is : blank_of n k (at / 2 ^ k) ≡ blank_parcel n k round.kind
      blank_is = ap (blank_of n k) (kind_of_lane k number sender sender_below ∙ number_is)
          ∙ blank_number n k round.kind

      sent_is : (from : ℕ) → exchange.sent stand.round from
          ≡ due n cap there.phase.step (block n k from (before_round n cap k machine acts stand.round))
      sent_is from =
          ap (λ (o : Option Phase). due_from n cap k (before_round n cap k machine acts stand.round) o from) there.at

      -- where it has filed, and from whom it gets
      abbrev whole : Machine
      whole = before_round n cap k machine acts stand.round

      abbrev now : Part
      now = block n k b whole

      left_at : stand.stage ≡ 3 → old.kept.part ≡ less cap there.phase.step now
      unfolding part_at_stand
      left_at stage =
          stood.part
          ∙ (ap (λ (z : ℕ). at_stage cap z (slice_get (rounds n k acts) stand.round) now) stage
          ∙ ap (λ (o : Option Phase). at_stage cap 3 o now) there.at)

      gives : (x : ℕ) → step ≡ Clear x → sender ≡ from_block n k there.phase.step b
      gives x is =
          ap (sender_of exchange stand) is
          ∙ (ap (λ (z : ℕ). giver k z x) there.number
          ∙ (ap (giver k (lane_kinds.kind_number_of n k there.phase.step)) (sym (ap block_of is))
          ∙ giver_is_sender n k there.phase.step b there.followed.exchanges))

      -- ---- it is ready

      ready_by : (s : Step) → step ≡ s → IsReadyFor acts s round old lane
      unfolding part
      ready_by (Grip x) is = tt
      ready_by (File x) is =
          let stage : stage_of step ≡ 1 = ap stage_of is in
          let empty : lane.word % 4 < 2 =
          below_two lane.word (uses_now exchange stand) (stage_of step) (word e) (omega (arith, stage)) in
          record {
            blank = w.blank at e at_below (is_below_two (lane.word % 4) empty) ∙ blank_is
                ∙ as_own (λ n1 k1 room1. blank_parcel n k round.kind ≡ blank_parcel n1 k1 round.kind) refl;
          }
      ready_by (Draw x) is = tt
      ready_by (Clear x) is =
          let stage : stage_of step ≡ 3 = ap stage_of is in
          let stage_now : stand.stage ≡ 3 = able.stage ∙ stage in
          let parcel : lane.parcel ≡ due n cap there.phase.step
          (block n k sender (before_round n cap k machine acts stand.round)) =
          full_holds (omega (arith, stage)) (omega (arith, stage)) ∙ sent_is sender in
          let events = (events_shared cap).next n k stand.round acts in
          let counts = deliveries_shared.next n k stand.round acts in
          let clock = stood.clock in
          record {
            lanes = subst (λ (p : Parcel). IsOfKind old.kept.dims old.k round.kind p) (sym parcel)
                (as_own (λ n1 k1 room1. IsOfKind n1 k1 round.kind (due n cap there.phase.step
                (block n k sender (before_round n cap k machine acts stand.round))))
                (due_of_kind n k cap there.phase.step
                (block n k sender (before_round n cap k machine acts stand.round)) there.followed.exchanges refl));
            space = room_for round.kind old.kept.room old.kept.part lane.parcel
                (as_own (λ n1 k1 room1. HaveSpaceFor round.kind room1 old.kept.part)
                (subst (λ (o : Option Phase). HasSpaceIn cap 3 o old.kept.part) there.at
                (subst (λ (z : ℕ). HasSpaceIn cap z (slice_get (rounds n k acts) stand.round) old.kept.part)
                stage_now stood.space)))
                (subst (λ (s : Part). SparesCuts round.kind s lane.parcel) (sym (left_at stage_now))
                (subst (λ (p : Parcel). SparesCuts round.kind (less cap there.phase.step now) p)
                (sym (parcel ∙ ap (λ (from : ℕ). due n cap there.phase.step (block n k from whole)) (gives x is)))
                (cuts_are_spared n cap k b whole there.phase.step there.followed.exchanges)));
            log_room = as_own (λ n1 k1 room1. HaveLogRoom (events_in room1 (local_after n1 k1 acts (Some round)))
                old.kept.log_rooms)
                (subst (λ steps. HaveLogRoom (events_in cap steps) old.kept.log_rooms) there.followed.between
                (less_room (events_in cap (steps_between n k acts stand.round))
                (events_in cap (steps_after_round n k acts stand.round)) old.kept.log_rooms
                (omega (arith, events)) stood.log_room));
            clock = as_own (λ n1 k1 room1. old.kept.part.clock
                + deliveries (local_after n1 k1 acts (Some round)) < 2 ^ 63)
                (subst (λ steps. old.kept.part.clock + deliveries steps < 2 ^ 63) there.followed.between
                (omega (arith, counts, clock)));
          }

      pub can_weave : lane.word < 2 ^ 31 → CanWeave acts step round old lane
      can_weave small = record {
        round_is = as_own (λ n1 k1 room1. IsRoundOf n1 k1 acts round) there.followed.round;
        ready = ready_by step refl;
        word = small;
      }

      -- ---- after it

      module _ (new : BlockView) (moved_to : Lane) (has : HasWoven acts step round old lane new moved_to) where
        parcel_to : ℕ
        parcel_to = giver k (lane_kinds.kind_number_of n k there.phase.step) b

        -- by which step it is told
        woven_is_with : (s : Step) → step ≡ s → (x : Part)
            → part_woven n k cap acts s round lane.parcel x
            ≡ part_with n cap k acts s stand.round there.phase
            (exchange.sent stand.round (giver k (lane_kinds.kind_number_of n k there.phase.step) b)) x
        woven_is_with (Grip y) is x = refl
        woven_is_with (File y) is x = ap (λ (z : phased.Step). less cap z x) there.followed.step
        woven_is_with (Draw y) is x = refl
        woven_is_with (Clear y) is x =
            let stage : stage_of step ≡ 3 = ap stage_of is in
            let from : sender ≡ giver k (lane_kinds.kind_number_of n k there.phase.step) b =
            ap (sender_of exchange stand) is ∙ ap (λ (z : ℕ). giver k z y) there.number
            ∙ ap (giver k (lane_kinds.kind_number_of n k there.phase.step)) (sym (ap block_of is)) in
            ap (λ steps. part_after_all n cap steps (absorbed n cap (step_of round) lane.parcel x))
            (sym there.followed.between)
            ∙ ap (λ (z : phased.Step). part_after_all n cap (steps_between n k acts stand.round)
            (absorbed n cap z lane.parcel x)) there.followed.step
            ∙ ap (λ (p : Parcel). part_after_all n cap (steps_between n k acts stand.round)
            (absorbed n cap there.phase.step p x))
            (full_holds (omega (arith, stage)) (omega (arith, stage)) ∙ ap (exchange.sent stand.round) from)

        has_part : new.kept.part ≡ part_woven n k cap acts step round lane.parcel old.kept.part
        has_part = of_own (λ n1 k1 room1. new.kept.part
            ≡ part_woven n1 k1 room1 acts step round lane.parcel old.kept.part) has.part

        new_part : new.kept.part ≡ part_at_stand n cap k machine acts b (stand_after step stand)
        new_part = has_part ∙ woven_is_with step refl old.kept.part
            ∙ ap (part_with n cap k acts step stand.round there.phase
            (exchange.sent stand.round (giver k (lane_kinds.kind_number_of n k there.phase.step) b))) stood.part
            ∙ sym (blocks_follow n cap k b machine acts stand step there.phase w.within able.below there.at able.stage)

        part_by : (s : Step) → step ≡ s → new.kept.part ≡ part_woven n k cap acts s round lane.parcel old.kept.part
        part_by s is = has_part ∙ ap (λ (z : Step). part_woven n k cap acts z round lane.parcel old.kept.part) is

        space_by : (s : Step) → step ≡ s
            → HasSpaceIn cap (stand_after s stand).stage (slice_get (rounds n k acts) (stand_after s stand).round) new.kept.part
        space_by (Grip y) is = tt
        space_by (File y) is =
            subst (λ (o : Option Phase). HasSpaceIn cap 2 o new.kept.part) (sym there.at)
            (subst (λ (z : ℕ). HaveSpaceFor round.kind z new.kept.part) (has.room ∙ stood.room)
            (subst (λ (z : Step). HasSpaceAfter z round old new) is has.space))
        space_by (Draw y) is =
            subst (λ (o : Option Phase). HasSpaceIn cap 3 o new.kept.part) (sym there.at)
            (subst (λ (s : Part). HasSpaceIn cap 2 (Some there.phase) s) (sym (part_by (Draw y) is))
            (subst (λ (o : Option Phase). HasSpaceIn cap 2 o old.kept.part) there.at
            (subst (λ (z : ℕ). HasSpaceIn cap z (slice_get (rounds n k acts) stand.round) old.kept.part)
            (able.stage ∙ ap stage_of is) stood.space)))
        space_by (Clear y) is = tt

        lost_by : (s : Step) → step ≡ s
            → LoseAtMost (events_woven n k cap acts s round) old.kept.log_rooms new.kept.log_rooms
        lost_by s is = subst (λ (z : Step). LoseAtMost (events_woven n k cap acts z round)
            old.kept.log_rooms new.kept.log_rooms) is
            (of_own (λ n1 k1 room1. LoseAtMost (events_woven n1 k1 room1 acts step round)
            old.kept.log_rooms new.kept.log_rooms) has.log_room)

        still_room_for : LoseAtMost 0 old.kept.log_rooms new.kept.log_rooms
            → HaveLogRoom (events_in cap (steps_after_round n k acts stand.round)) new.kept.log_rooms
        still_room_for lost =
            room_left 0 (events_in cap (steps_after_round n k acts stand.round)) (events_in cap (steps_after_round n k acts stand.round))
            old.kept.log_rooms new.kept.log_rooms (omega arith) stood.log_room lost

        rooms_by : (s : Step) → step ≡ s
            → HaveLogRoom (events_in cap (steps_after_round n k acts (stand_after s stand).round)) new.kept.log_rooms
        rooms_by (Grip y) is = still_room_for (lost_by (Grip y) is)
        rooms_by (File y) is = still_room_for (lost_by (File y) is)
        rooms_by (Draw y) is = still_room_for (lost_by (Draw y) is)
        rooms_by (Clear y) is =
            room_left (events_in cap (local_after n k acts (Some round)))
            (events_in cap (steps_after_round n k acts (stand.round + 1))) (events_in cap (steps_after_round n k acts stand.round))
            old.kept.log_rooms new.kept.log_rooms
            (ap (λ steps. events_in cap steps + events_in cap (steps_after_round n k acts (stand.round + 1)))
            (sym there.followed.between) ∙ (events_shared cap).next n k stand.round acts)
            stood.log_room (lost_by (Clear y) is)

        clock_by : (s : Step) → step ≡ s
            → new.kept.part.clock + deliveries (steps_after_round n k acts (stand_after s stand).round) < 2 ^ 63
        clock_by (Grip y) is =
            let same = ap (λ (s : Part). s.clock) (part_by (Grip y) is) in let c = stood.clock in omega (arith, same, c)
        clock_by (File y) is =
            let same : new.kept.part.clock ≡ old.kept.part.clock =
            ap (λ (s : Part). s.clock) (part_by (File y) is) ∙ clock_left cap (step_of round) old.kept.part in
            let c = stood.clock in omega (arith, same, c)
        clock_by (Draw y) is =
            let same = ap (λ (s : Part). s.clock) (part_by (Draw y) is) in let c = stood.clock in omega (arith, same, c)
        clock_by (Clear y) is =
            let taken : Part = absorbed n cap (step_of round) lane.parcel old.kept.part in
            let on : new.kept.part.clock ≡ taken.clock + deliveries (local_after n k acts (Some round)) =
            ap (λ (s : Part). s.clock) (part_by (Clear y) is)
            ∙ clock_after_all n cap (local_after n k acts (Some round)) taken in
            let still = clock_stands n cap (step_of round) lane.parcel old.kept.part in
            let between : deliveries (local_after n k acts (Some round))
            ≡ deliveries (steps_between n k acts stand.round) = ap deliveries (sym there.followed.between) in
            let counts = deliveries_shared.next n k stand.round acts in
            let c = stood.clock in
            omega (arith, on, still, between, counts, c)

        stands_new : StandsThere n cap k machine acts b (stand_after step stand) new
        stands_new = record {
          blocks = has.blocks ∙ stood.blocks;
          dims = has.dims ∙ stood.dims;
          room = has.room ∙ stood.room;
          part = new_part;
          space = space_by step refl;
          log_room = rooms_by step refl;
          clock = clock_by step refl;
        }

        -- ---- the lane

        word_new : moved_to.word ≡ 4 * uses_now exchange stand + stage_of step + 1
        word_new = has.word ∙ ap (λ (z : ℕ). z + 1) (word e)

        parcel_by : (s : Step) → step ≡ s
            → moved_to.parcel ≡ parcel_woven n k cap s round old.kept.part lane.parcel
        parcel_by s is = of_own (λ n1 k1 room1. moved_to.parcel
            ≡ parcel_woven n1 k1 room1 step round old.kept.part lane.parcel) has.parcel
            ∙ ap (λ (z : Step). parcel_woven n k cap z round old.kept.part lane.parcel) is

        seen_by : (s : Step) → step ≡ s → lane_seen moved_to
            ≡ moved s (due_list exchange number sender) (uses_now exchange stand) (lane_of k world number sender)
        unfolding part_at_stand
        seen_by (Grip y) is =
            let count : ℕ = uses_now exchange stand in
            let stage : stage_of step ≡ 0 = ap stage_of is in
            let w_new : moved_to.word ≡ 4 * count + 1 = omega (arith, word_new, stage) in
            let old_word = word e in
            let seen : lane_of k world number sender ≡ lane_seen lane = seen-at at e at_below in
            let none : (lane_seen moved_to).parcel ≡ (lane_of k world number sender).parcel =
            seen_empty moved_to (below_two moved_to.word count 1 w_new (omega arith))
            ∙ sym (ap (λ (z : worlds.Lane). z.parcel) seen
            ∙ seen_empty lane (below_two lane.word count (stage_of step) old_word (omega (arith, stage)))) in
            λ i. record { word = w_new i; parcel = none i }
        seen_by (File y) is =
            let count : ℕ = uses_now exchange stand in
            let stage : stage_of step ≡ 1 = ap stage_of is in
            let w_new : moved_to.word ≡ 4 * count + 2 = omega (arith, word_new, stage) in
            let now : Machine = before_round n cap k machine acts stand.round in
            let own : sender ≡ b = ap (sender_of exchange stand) is ∙ sym (ap block_of is) in
            let whole : old.kept.part ≡ block n k b now =
            stood.part ∙ ap (λ (z : ℕ). at_stage cap z (slice_get (rounds n k acts) stand.round) (block n k b now))
            (able.stage ∙ stage) in
            let sent : moved_to.parcel ≡ exchange.sent stand.round sender =
            parcel_by (File y) is ∙ ap (λ (z : phased.Step). due n cap z old.kept.part) there.followed.step
            ∙ ap (due n cap there.phase.step) whole ∙ sym (sent_is b)
            ∙ ap (exchange.sent stand.round) (sym own) in
            let some : (lane_seen moved_to).parcel
            ≡ slice_get (due_list exchange number sender) count =
            seen_full moved_to (from_two moved_to.word count 2 w_new (omega arith) (omega arith))
            ∙ ap Some sent ∙ sym dues_at in
            λ i. record { word = w_new i; parcel = some i }
        seen_by (Draw y) is =
            let count : ℕ = uses_now exchange stand in
            let stage : stage_of step ≡ 2 = ap stage_of is in
            let w_new : moved_to.word ≡ 4 * count + 3 = omega (arith, word_new, stage) in
            let old_word = word e in
            let seen : lane_of k world number sender ≡ lane_seen lane = seen-at at e at_below in
            let some : (lane_seen moved_to).parcel ≡ (lane_of k world number sender).parcel =
            seen_full moved_to (from_two moved_to.word count 3 w_new (omega arith) (omega arith))
            ∙ ap Some (parcel_by (Draw y) is)
            ∙ sym (ap (λ (z : worlds.Lane). z.parcel) seen
            ∙ seen_full lane (from_two lane.word count (stage_of step) old_word (omega (arith, stage))
            (omega (arith, stage)))) in
            λ i. record { word = w_new i; parcel = some i }
        seen_by (Clear y) is =
            let count : ℕ = uses_now exchange stand in
            let stage : stage_of step ≡ 3 = ap stage_of is in
            let w_new : moved_to.word ≡ 4 * count + 4 = omega (arith, word_new, stage) in
            let next : moved_to.word ≡ 4 * (count + 1) + 0 = omega (arith, w_new) in
            let none : (lane_seen moved_to).parcel ≡ None =
            seen_empty moved_to (below_two moved_to.word (count + 1) 0 next (omega arith)) in
            λ i. record { word = w_new i; parcel = none i }

        pub world_is : world_seen (set stands b (stand_after step stand)) (set lanes at moved_to)
            ≡ world_after exchange world step
        unfolding world_after
        world_is =
            let lanes_are = map-set lane_seen lanes at moved_to
            ∙ ap (set (map lane_seen lanes) at) (seen_by step refl) in
            λ i. record { stands = set stands b (stand_after step stand); lanes = lanes_are i }

        blank_by : (s : Step) → step ≡ s → moved_to.word % 4 < 2 → moved_to.parcel ≡ blank_of n k (at / 2 ^ k)
        blank_by (Grip y) is empty =
            let stage : stage_of step ≡ 0 = ap stage_of is in
            let old_empty : lane.word % 4 < 2 =
            below_two lane.word (uses_now exchange stand) (stage_of step) (word e) (omega (arith, stage)) in
            parcel_by (Grip y) is ∙ w.blank at e at_below (is_below_two (lane.word % 4) old_empty)
        blank_by (File y) is empty =
            let stage : stage_of step ≡ 1 = ap stage_of is in
            let full = from_two moved_to.word (uses_now exchange stand) 2 (omega (arith, word_new, stage))
            (omega arith) (omega arith) in absurd (omega (arith, full, empty))
        blank_by (Draw y) is empty =
            let stage : stage_of step ≡ 2 = ap stage_of is in
            let full = from_two moved_to.word (uses_now exchange stand) 3 (omega (arith, word_new, stage))
            (omega arith) (omega arith) in absurd (omega (arith, full, empty))
        blank_by (Clear y) is empty = parcel_by (Clear y) is ∙ sym blank_is

        still_blank : AreBlank n k (set lanes at moved_to)
        still_blank i l below test = ⊎_elim
            (λ (here : i ≡ at).
            let is : get_or (set lanes at moved_to) i l ≡ moved_to =
            ap (λ (z : ℕ). get_or (set lanes at moved_to) z l) here ∙ get_or-set_same lanes at moved_to l at_below in
            let empty : moved_to.word % 4 < 2 =
            tells (moved_to.word % 4) (subst (λ (z : Lane). nat_lt (z.word % 4) 2 ≡ true) is test) in
            ap (λ (z : Lane). z.parcel) is ∙ blank_by step refl empty
            ∙ ap (λ (z : ℕ). blank_of n k (z / 2 ^ k)) (sym here))
            (λ (other : i ≢ at).
            let is : get_or (set lanes at moved_to) i l ≡ get_or lanes i l =
            get_or-set_other lanes at i moved_to l other in
            ap (λ (z : Lane). z.parcel) is
            ∙ w.blank i l (subst (λ (z : ℕ). i < z) (length-set lanes at moved_to) below)
            (subst (λ (z : Lane). nat_lt (z.word % 4) 2 ≡ true) is test))
            (cases_eq i at)
          where
            tells : (x : ℕ) → nat_lt x 2 ≡ true → x < 2
            tells x h = grind (arith, nat_tests)

        stand_count : length stands ≡ 2 ^ k
        stand_count = sound.stand_count

        pub woven_after : AreWoven n cap k machine acts rounds_kept (set blocks b new)
            (set stands b (stand_after step stand))
            (set lanes at moved_to)
        woven_after = record {
          few = w.few;
          within = w.within;
          rounds_are = w.rounds_are;
          few_rounds = w.few_rounds;
          reached = reached_more exchange world
              (world_seen (set stands b (stand_after step stand)) (set lanes at moved_to)) step w.reached possible world_is;
          block_count = length-set blocks b new ∙ w.block_count;
          each = λ c x below. ⊎_elim
              (λ (here : c ≡ b).
              let there_now : get_or (set stands b (stand_after step stand)) c at_first ≡ stand_after step stand =
              ap (λ (z : ℕ). get_or (set stands b (stand_after step stand)) z at_first) here
              ∙ get_or-set_same stands b (stand_after step stand) at_first
              (subst (λ (z : ℕ). b < z) (sym stand_count) able.below) in
              let block_now : get_or (set blocks b new) c x ≡ new =
              ap (λ (z : ℕ). get_or (set blocks b new) z x) here
              ∙ get_or-set_same blocks b new x (subst (λ (z : ℕ). b < z) (sym w.block_count) able.below) in
              subst (λ (z : ℕ). StandsThere n cap k machine acts z
              (get_or (set stands b (stand_after step stand)) c at_first)
              (get_or (set blocks b new) c x)) (sym here)
              (subst (λ (z : Stand). StandsThere n cap k machine acts b z (get_or (set blocks b new) c x))
              (sym there_now)
              (subst (λ (z : BlockView). StandsThere n cap k machine acts b (stand_after step stand) z) (sym block_now)
              stands_new)))
              (λ (other : c ≢ b).
              subst (λ (z : Stand). StandsThere n cap k machine acts c z (get_or (set blocks b new) c x))
              (sym (get_or-set_other stands b c (stand_after step stand) at_first other))
              (subst (λ (z : BlockView). StandsThere n cap k machine acts c (get_or stands c at_first) z)
              (sym (get_or-set_other blocks b c new x other)) (w.each c x below)))
              (cases_eq c b);
          blank = still_blank;
        }
