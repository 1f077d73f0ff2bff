-- Blocks that were cut and went alone to their first round, with lanes that were not used, are the first world of a
-- run.
use Rattle.std.proofs.Common.{◌≡◌, ℕ, suc, ◌+◌, ◌-◌, ◌*◌, ◌/◌, ◌%◌, ◌<◌, ◌≤◌, ◌^◌, ⊎_elim}
use Rattle.std.proofs.Common.{Bool, true, false, cond, List, [], ◌∷◌, Some, None}
use Rattle.std.proofs.Common.{length, map, get_or, set, replicate, refl, ap, sym, subst, ◌∙◌, arith}
use Rattle.std.specs.Prelude.{nat_lt, if◌then◌else◌}
use Rattle.std.specs.List.{All, filter, range_with_len}
use Rattle.std.proofs.lemmas.Bool.{cases_eq, cases_lt}
use Rattle.std.proofs.lemmas.List.{length-map, length-append, length-set, get_or-map}
use Rattle.std.proofs.lemmas.List.{get_or-replicate, get_or-set_same, get_or-set_other}
use Rattle.std.proofs.lemmas.List.Elements.{All-get_or}
use Rattle.std.proofs.lemmas.List.FromFn.{length-map-range_with_len}
use Rattle.cm_model.specs.declared.act.Act.{Act}
use Rattle.cm_model.specs.declared.act.Act.TheVariants as act
use Rattle.cm_model.specs.Machine.{Machine}
use Rattle.cm_model.specs.Steps.{Phase, Cross, Deliver, steps_of, phases_of, phases_from}
use Rattle.cm_model.specs.Steps as phased
use Rattle.cm_model.proofs.Each.{length-tabulate, get_or-each_below, is_each}
use Rattle.cm_blocks.specs.Counts.{deliveries, events_in}
use Rattle.cm_blocks.specs.Parts.{Part, block}
use Rattle.cm_blocks.specs.Rounds.{is_round, before_round, steps_after_round}
use Rattle.cm_blocks.specs.Steps.{part_after_all}
use Rattle.cm_blocks.proofs.Rounding.{blocks_begin}
use Rattle.cm_router.specs.Logs.{HaveLogRoom, LoseAtMost}
use Rattle.cm_router.proofs.Rooms.{room_left, less_room}
use Rattle.cm_array.specs.Acts.{cycles_in}
use Rattle.cm_subcube.specs.declared.round.Round.{Round}
use Rattle.cm_subcube.specs.Blocks.{BlockView, IsFresh, CanGo, HasGone}
use Rattle.cm_subcube.specs.Laws.{all_blocks}
use Rattle.cm_subcube.specs.Rounds.{rounds_of, round_of}
use Rattle.cm_subcube.specs.Local.{local_after}
use Rattle.cm_subcube.proofs.Counting.{steps_until-first, deliveries_shared, events_shared}
use Rattle.cm_subcube.proofs.Joining.{clock-block}
use Rattle.cm_exchange.specs.declared.stand.Stand.{Stand}
use Rattle.cm_exchange.specs.Lanes.{exchange_of, kind_count}
use Rattle.cm_exchange.specs.Worlds.{at_first, unused_lane, first_world}
use Rattle.cm_weave.specs.declared.lane.Lane.{Lane}
use Rattle.cm_weave.specs.declared.first.Prepared.{Prepared}
use Rattle.cm_weave.specs.First.{IsFirstBlock, HasBegun, AreBeginning, AreUnused, IsPrepared}
use Rattle.cm_weave.specs.Parts.{part_at_stand}
use Rattle.cm_weave.specs.Woven.{lane_seen, world_seen, StandsThere, AreWoven}
use Rattle.cm_subcube.proofs.Clocks.{clock_after_all}
use Rattle.cm_weave.proofs.Finishing.{no_block}

-- ---- rounds are few

filter-few : {X : Type 0} (p : X → Bool) (xs : List X) → length (filter p xs) ≤ length xs
filter-few p [] = omega arith
filter-few p (x ∷ xs) = by_test (p x) (filter-few p xs) where
  by_test : (t : Bool) → length (filter p xs) ≤ length xs
      → length (cond t (x ∷ filter p xs) (filter p xs)) ≤ suc (length xs)
  by_test true h = omega (arith, h)
  by_test false h = omega (arith, h)

steps-few : (n : ℕ) (one : Act) → n ≤ 12 → length (steps_of n one) ≤ 14
steps-few n (act.Nano nano) l = omega arith
steps-few n act.Sense l = omega arith
steps-few n act.Cycle l =
    let all = length-append (map Cross (range_with_len 0 n)) (Deliver ∷ []) in
    let crossings = length-map-range_with_len Cross 0 n in
    omega (arith, all, crossings, l)

phases-few : (n at : ℕ) (acts : List Act) → n ≤ 12 → length (phases_from n at acts) ≤ 14 * length acts
phases-few n at [] l = omega arith
phases-few n at (one ∷ more) l =
    let all = length-append (phases_of n at one) (phases_from n (at + 1) more) in
    let own : length (phases_of n at one) ≡ length (steps_of n one) =
    length-map (steps_of n one) (λ step. record { at = at; act = one; step = step }) in
    let few = steps-few n one l in
    let rest = phases-few n (at + 1) more l in
    omega (arith, all, own, few, rest)

pub rounds-few : (n k : ℕ) (acts : List Act) → n ≤ 12 → length acts ≤ 4096 → length (rounds_of n k acts) ≤ 2 ^ 20
rounds-few n k acts l few =
    let all = length-map (filter (λ (phase : Phase). is_round n k phase.step) (phases_from n 0 acts)) round_of in
    let some = filter-few (λ (phase : Phase). is_round n k phase.step) (phases_from n 0 acts) in
    let phases = phases-few n 0 acts l in
    omega (arith, all, some, phases, few)

-- ---- blocks go to their first round

-- blocks that were just cut
pub just_cut : (n cap k cycles : ℕ) (machine : Machine) (acts : List Act) (blocks : List BlockView)
    → map (λ (b : BlockView). b.kept.part) blocks ≡ all_blocks n k machine
    → All (IsFresh n cap k (cycles * (4 + cap))) blocks
    → cycles ≡ cycles_in acts → machine.clock + cycles < 2 ^ 63 → AreBeginning n cap k machine acts 0 blocks
just_cut n cap k cycles machine acts blocks are fresh counted late =
    let count : length blocks ≡ 2 ^ k =
    sym (length-map blocks (λ (b : BlockView). b.kept.part)) ∙ ap length are
    ∙ length-tabulate 0 (2 ^ k) (λ b. block n k b machine) in
    record {
      count = count;
      begun = λ b d l. absurd (omega (arith, l));
      cut = λ b d first l.
          let below : b < length blocks = omega (arith, l, count) in
          let one = All-get_or (IsFresh n cap k (cycles * (4 + cap))) blocks b d below fresh in
          let is : (get_or blocks b d).kept.part ≡ block n k b machine =
          sym (get_or-map (λ (z : BlockView). z.kept.part) blocks b d (block n k b machine) below)
          ∙ ap (λ (parts : List Part). get_or parts b (block n k b machine)) are
          ∙ get_or-each_below (2 ^ k) (λ j. block n k j machine) b (block n k b machine) l in
          record {
            blocks = one.blocks;
            dims = one.dims;
            room = one.room;
            part = is;
            log_room = subst (λ (e : ℕ). HaveLogRoom (e * (4 + cap)) (get_or blocks b d).kept.log_rooms)
                counted one.log_room;
            clock = let at : (get_or blocks b d).kept.part.clock ≡ machine.clock = ap (λ (s : Part). s.clock) is
                ∙ clock-block n k b machine in
                omega (arith, at, counted, late);
          };
    }

module _ (n cap k b : ℕ) (machine : Machine) (acts : List Act) (old : BlockView)
    (is : IsFirstBlock n cap k machine acts b old) where
  as_own : (P : ℕ → ℕ → ℕ → Type 0) → P n k cap → P old.kept.dims old.k old.kept.room
  as_own P p = subst (λ (z : ℕ). P z old.k old.kept.room) (sym is.dims)
      (subst (λ (z : ℕ). P n z old.kept.room) (sym is.blocks)
      (subst (λ (z : ℕ). P n k z) (sym is.room) p))

  of_own : (P : ℕ → ℕ → ℕ → Type 0) → P old.kept.dims old.k old.kept.room → P n k cap
  of_own P p = subst (λ (z : ℕ). P n k z) is.room
      (subst (λ (z : ℕ). P n z old.kept.room) is.blocks
      (subst (λ (z : ℕ). P z old.k old.kept.room) is.dims p))

  pub can_begin : CanGo (local_after old.kept.dims old.k acts None) old
  can_begin = record {
    log_room = as_own
        (λ n1 k1 room1. HaveLogRoom (events_in room1 (local_after n1 k1 acts None)) old.kept.log_rooms)
        (less_room (events_in cap (local_after n k acts None)) (cycles_in acts * (4 + cap)) old.kept.log_rooms
        (let f = (events_shared cap).first n k acts in omega (arith, f)) is.log_room);
    clock = as_own (λ n1 k1 room1. old.kept.part.clock + deliveries (local_after n1 k1 acts None) < 2 ^ 63)
        (let f = deliveries_shared.first n k acts in let c = is.clock in omega (arith, f, c));
  }

  pub has_begun : (new : BlockView) → HasGone (local_after old.kept.dims old.k acts None) old new
      → HasBegun n cap k machine acts b new
  has_begun new gone =
      let part : new.kept.part ≡ part_after_all n cap (local_after n k acts None) (block n k b machine) =
      of_own (λ n1 k1 room1. new.kept.part ≡ part_after_all n1 room1 (local_after n1 k1 acts None) old.kept.part)
      gone.part
      ∙ ap (part_after_all n cap (local_after n k acts None)) is.part in
      let lost : LoseAtMost (events_in cap (local_after n k acts None)) old.kept.log_rooms new.kept.log_rooms =
      of_own (λ n1 k1 room1. LoseAtMost (events_in room1 (local_after n1 k1 acts None))
      old.kept.log_rooms new.kept.log_rooms) gone.log_room in
      let clock = ap (λ (s : Part). s.clock) part
      ∙ clock_after_all n cap (local_after n k acts None) (block n k b machine) in
      let was = ap (λ (s : Part). s.clock) is.part in
      let counts = deliveries_shared.first n k acts in
      let late = is.clock in
      record {
        blocks = gone.blocks ∙ is.blocks;
        dims = gone.dims ∙ is.dims;
        room = gone.room ∙ is.room;
        part = part;
        log_room = room_left (events_in cap (local_after n k acts None)) (events_in cap (steps_after_round n k acts 0))
            (cycles_in acts * (4 + cap)) old.kept.log_rooms new.kept.log_rooms
            ((events_shared cap).first n k acts) is.log_room lost;
        clock = omega (arith, clock, was, counts, late);
      }

-- one more of the blocks has begun
pub one_more_begun : (n cap k b : ℕ) (machine : Machine) (acts : List Act) (blocks : List BlockView) (d new : BlockView)
    → b < length blocks → AreBeginning n cap k machine acts b blocks
    → HasGone (local_after (get_or blocks b d).kept.dims (get_or blocks b d).k acts None) (get_or blocks b d) new
    → AreBeginning n cap k machine acts (b + 1) (set blocks b new)
one_more_begun n cap k b machine acts blocks d new l were gone = record {
  count = length-set blocks b new ∙ were.count;
  begun = λ c x below within. ⊎_elim
      (λ (here : c ≡ b).
      subst (λ (z : ℕ). HasBegun n cap k machine acts z (get_or (set blocks b new) z x)) (sym here)
      (subst (λ (z : BlockView). HasBegun n cap k machine acts b z) (sym (get_or-set_same blocks b new x l))
      (has_begun n cap k b machine acts (get_or blocks b d)
      (were.cut b d (omega arith) (let e = were.count in omega (arith, e, l))) new gone)))
      (λ other. subst (λ (z : BlockView). HasBegun n cap k machine acts c z)
      (sym (get_or-set_other blocks b c new x other))
      (were.begun c x (below_less c b below other) within))
      (cases_eq c b);
  cut = λ c x from within.
      subst (λ (z : BlockView). IsFirstBlock n cap k machine acts c z)
      (sym (get_or-set_other blocks b c new x (λ e. omega (arith, from, e))))
      (were.cut c x (omega (arith, from)) within);
} where
  below_less : (c b : ℕ) → c < b + 1 → ((c ≡ b) → ⊥) → c < b
  below_less c b below other = ⊎_elim
      (λ (less : c < b). less)
      (λ (least : b ≤ c). absurd (other (omega (arith, below, least))))
      (cases_lt c b)

-- ---- lanes that were not used

seen_unused : (lane : Lane) → lane.word ≡ 0 → lane_seen lane ≡ unused_lane
seen_unused lane e = λ i. record { word = e i; parcel = none i } where
  none : (lane_seen lane).parcel ≡ None
  none = ap (λ (z : ℕ). if nat_lt (z % 4) 2 then None else Some lane.parcel) e

all_unused : (lanes : List Lane) → All (λ (lane : Lane). lane.word ≡ 0) lanes
    → map lane_seen lanes ≡ replicate (length lanes) unused_lane
all_unused [] h = refl
all_unused (lane ∷ lanes) h =
    λ i. seen_unused lane (h 0 lane (omega arith)) i ∷ all_unused lanes (λ j d l. h (suc j) d (omega (arith, l))) i

-- ---- the first world

module _ (n cap k : ℕ) (machine : Machine) (acts : List Act) (rounds_kept : List Round) (blocks : List BlockView)
    (lanes : List Lane) (few : n ≤ 12) (acts_few : length acts ≤ 4096) (within : k ≤ n - n / 2)
    (rounds_are : rounds_kept ≡ rounds_of n k acts) (all_begun : AreBeginning n cap k machine acts (2 ^ k) blocks)
    (all_blank : AreUnused n k (kind_count k * 2 ^ k) lanes) where
  pub first_seen : world_seen (replicate (2 ^ k) at_first) lanes ≡ first_world (exchange_of n cap k machine acts)
  unfolding first_world
  first_seen =
      let lanes_are = all_unused lanes (λ i d l. (all_blank.each i d l).word)
      ∙ ap (λ (z : ℕ). replicate z unused_lane) all_blank.len in
      λ i. record { stands = replicate (2 ^ k) at_first; lanes = lanes_are i }

  part_first : (b : ℕ) (d : BlockView) → b < 2 ^ k
      → (get_or blocks b d).kept.part ≡ block n k b (before_round n cap k machine acts 0)
  part_first b d l =
      (all_begun.begun b d l l).part
      ∙ ap (λ (steps : List phased.Step). part_after_all n cap steps (block n k b machine))
      (sym (steps_until-first n k acts))
      ∙ sym (blocks_begin n cap k b machine acts within l)

  stands_first : (b : ℕ) (d : BlockView) → b < 2 ^ k → StandsThere n cap k machine acts b at_first (get_or blocks b d)
  unfolding part_at_stand
  stands_first b d l =
      let one = all_begun.begun b d l l in
      record {
        blocks = one.blocks;
        dims = one.dims;
        room = one.room;
        part = part_first b d l;
        space = tt;
        log_room = one.log_room;
        clock = one.clock;
      }

  pub first_parts : map (λ (b : BlockView). b.kept.part) blocks ≡ all_blocks n k (before_round n cap k machine acts 0)
  first_parts =
      is_each (block n k 0 machine) (2 ^ k) (λ b. block n k b (before_round n cap k machine acts 0))
      (map (λ (b : BlockView). b.kept.part) blocks)
      (length-map blocks (λ (b : BlockView). b.kept.part) ∙ all_begun.count)
      (λ b l.
      get_or-map (λ (z : BlockView). z.kept.part) blocks b (no_block n k machine) (block n k 0 machine)
      (subst (λ (z : ℕ). b < z) (sym all_begun.count) l)
      ∙ part_first b (no_block n k machine) l)

  pub first_woven : AreWoven n cap k machine acts rounds_kept blocks (replicate (2 ^ k) at_first) lanes
  first_woven = record {
    few = few;
    within = within;
    rounds_are = rounds_are;
    few_rounds = subst (λ (z : List Round). length z ≤ 2 ^ 20) (sym rounds_are) (rounds-few n k acts few acts_few);
    reached = record { steps = []; is = record { lead = first_seen } };
    block_count = all_begun.count;
    each = λ b d l.
        subst (λ (z : Stand). StandsThere n cap k machine acts b z (get_or blocks b d))
        (sym (get_or-replicate (2 ^ k) b at_first at_first l)) (stands_first b d l);
    blank = λ i d l test. (all_blank.each i d l).parcel;
  }

pub is_begun : (n cap k : ℕ) (machine : Machine) (acts : List Act) (begun : Prepared) → n ≤ 12 → length acts ≤ 4096
    → k ≤ n - n / 2 → begun.acts.items ≡ acts → begun.rounds.items ≡ rounds_of n k acts
    → AreBeginning n cap k machine acts (2 ^ k) begun.blocks.items
    → begun.stands.items ≡ replicate (2 ^ k) at_first
    → AreUnused n k (kind_count k * 2 ^ k) begun.lanes.items → IsPrepared n cap k machine acts begun
is_begun n cap k machine acts begun few acts_few within acts_are rounds_are blocks_are stands_are lanes_are = record {
  acts_are = acts_are;
  woven =
      subst (λ (z : List Act). AreWoven n cap k machine z begun.rounds.items begun.blocks.items begun.stands.items
      begun.lanes.items) (sym acts_are)
      (subst (λ (z : List Stand). AreWoven n cap k machine acts begun.rounds.items begun.blocks.items z
      begun.lanes.items) (sym stands_are)
      (first_woven n cap k machine acts begun.rounds.items begun.blocks.items begun.lanes.items few acts_few within
      rounds_are blocks_are lanes_are));
  world =
      ap (λ (z : List Stand). world_seen z begun.lanes.items) stands_are
      ∙ first_seen n cap k machine acts begun.rounds.items begun.blocks.items begun.lanes.items few acts_few within
      rounds_are blocks_are lanes_are;
  parts = first_parts n cap k machine acts begun.rounds.items begun.blocks.items begun.lanes.items few acts_few within
      rounds_are blocks_are lanes_are;
}
