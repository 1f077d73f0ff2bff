-- One block from turn to turn of a run, with what it has sent.
use Rattle.std.proofs.Common.{◌≡◌, ℕ, suc, ◌+◌, ◌-◌, ◌*◌, ◌/◌, ◌<◌, ◌≤◌, ◌^◌, true, false}
use Rattle.std.proofs.Common.{List, Option, Some, None, refl, ap, sym}
use Rattle.std.proofs.Common.{subst, ◌∙◌, arith}
use Rattle.std.specs.Prelude.{slice_get}
use Rattle.std.specs.Option.{option_map}
use Rattle.std.proofs.lemmas.Option.{slice_get-map}
use Rattle.std.proofs.lemmas.Bool.Decides.{nat_tests}
use Rattle.cm_bits.specs.declared.plane.Dir.{Dir}
use Rattle.cm_bits.specs.declared.plane.Dir.TheVariants as dir
use Rattle.cm_model.specs.declared.act.Act.{Act}
use Rattle.cm_model.specs.Machine.{Machine}
use Rattle.cm_model.specs.Steps.{Step, Instruct, Look, Inject, Cross, Deliver, Phase}
use Rattle.cm_blocks.specs.Counts.{deliveries, events_in}
use Rattle.cm_blocks.specs.Parts.{Part, part, block, block_size}
use Rattle.cm_blocks.specs.Parcels.{Parcel, due, sender, sender_over}
use Rattle.cm_blocks.specs.Rounds.{is_round, is_vertical, rounds, before_round, steps_between, steps_after_round}
use Rattle.cm_blocks.specs.Steps.{part_after, part_after_all, less, absorbed}
use Rattle.cm_blocks.proofs.Rounding.{blocks_begin, blocks_go_on}
use Rattle.cm_blocks.proofs.Filling.{leaving_then_taking_in}
use Rattle.cm_router.specs.Logs.{HaveLogRoom, LoseAtMost}
use Rattle.cm_router.proofs.Rooms.{room_left, less_room}
use Rattle.cm_array.specs.Acts.{cycles_in}
use Rattle.cm_subcube.specs.Blocks.{BlockView}
use Rattle.cm_subcube.specs.declared.round.Kind.{Kind}
use Rattle.cm_subcube.specs.declared.round.Kind.TheVariants as kind
use Rattle.cm_subcube.specs.declared.round.Round.{Round}
use Rattle.cm_subcube.proofs.Clocks.{clock_after_all, clock_left, due_of_kind}
use Rattle.cm_subcube.specs.Rounds.{kind_of, kind_over, round_of, rounds_of, step_of}
use Rattle.cm_subcube.specs.Parcels.{IsOfKind, HaveSpaceFor, SparesCuts}
use Rattle.cm_subcube.specs.Local.{local_after, IsRoundOf}
use Rattle.cm_subcube.proofs.Sparing.{cuts_are_spared, room_for}
use Rattle.cm_subcube.proofs.Counting.{steps_until-first, deliveries_shared, events_shared}
use Rattle.cm_subcube.proofs.Following.{round_is_followed}
use Rattle.cm_workers.specs.declared.post.Post.{Post}
use Rattle.cm_gates.specs.Handing.{giver_of_kind}
use Rattle.cm_workers.specs.Posts.{lane_in, post_of, blank_post}
use Rattle.cm_workers.specs.Turns.{part_taken_in, part_gone_on, left_in, sent_by, IsFollowing, HasComeBefore}
use Rattle.cm_workers.specs.Turns.{HaveSpaceIn, IsReadyForTurn, HasGone}
use Rattle.cm_workers.proofs.Turning.{clock_stands}
use Rattle.cm_workers.specs.Runs.{part_at_turn, post_at, come_in, without_sent, HaveSpaceAt, StandsAt}

-- a lane is what a post of its kind was made of
pub lane_of_post : (n k : ℕ) (round : Kind) (parcel : Parcel) → lane_in round (post_of n k round parcel) ≡ parcel
lane_of_post n k kind.North parcel = refl
lane_of_post n k kind.South parcel = refl
lane_of_post n k (kind.Dim d) parcel = refl

module _ (n k room : ℕ) (machine : Machine) (acts : List Act) (within : k ≤ n - n / 2) (b : ℕ) (below : b < 2 ^ k) where
  -- from the beginning of the run to the first round
  pub first_turn : (s : Part) (post : Post) → s ≡ part_at_turn n k room machine acts 0 b
      → part_gone_on n k room acts None post s ≡ block n k b (before_round n room k machine acts 0)
  first_turn s post is =
      ap (λ (x : Part). part_after_all n room (local_after n k acts None) x) is
      ∙ ap (λ (steps : List Step). part_after_all n room steps (block n k b machine)) (sym (steps_until-first n k acts))
      ∙ sym (blocks_begin n room k b machine acts within below)

  -- from one round to the next, or to the end
  pub later_turn : (r : ℕ) (phase : Phase) (s : Part) (post : Post) → slice_get (rounds n k acts) r ≡ Some phase
      → s ≡ part_at_turn n k room machine acts (suc r) b → post ≡ post_at n k room machine acts (suc r) b
      → part_gone_on n k room acts (Some (round_of phase)) post s ≡ block n k b (before_round n room k machine acts (r + 1))
  later_turn r phase s post at is came =
      let now : Machine = before_round n room k machine acts r in
      let told = round_is_followed n k r acts phase at in
      let parcel : Parcel = due n room phase.step (block n k (sender n k phase.step b) now) in
      let lane : lane_in (kind_of phase.step) post ≡ parcel =
      ap (λ (p : Post). lane_in (kind_of phase.step) p) (came ∙ ap (λ (o : Option Phase). come_in n k room o b now) at)
      ∙ lane_of_post n k (kind_of phase.step) parcel in
      let left : s ≡ less room phase.step (block n k b now) = is
      ∙ ap (λ (o : Option Phase). without_sent room o (block n k b now)) at in
      let taken : absorbed n room (step_of (round_of phase)) (lane_in (kind_of phase.step) post) s
      ≡ part_after n room phase.step parcel (block n k b now) =
      ap (λ (step : Step). absorbed n room step (lane_in (kind_of phase.step) post) s) told.step
      ∙ ap (λ (p : Parcel). absorbed n room phase.step p s) lane
      ∙ ap (λ (x : Part). absorbed n room phase.step parcel x) left
      ∙ leaving_then_taking_in n room k b now phase.step (omega (arith, within)) below told.is_step told.exchanges in
      ap (λ (x : Part). part_after_all n room (local_after n k acts (Some (round_of phase))) x) taken
      ∙ ap (λ (steps : List Step). part_after_all n room steps (part_after n room phase.step parcel (block n k b now)))
      (sym told.between)
      ∙ sym (blocks_go_on n room k b r machine acts phase within below at)

-- ---- what a round sends

-- the giver of a kind is the sender at the step
pub giver_is_sender : (n k : ℕ) (step : Step) (b : ℕ) → is_round n k step ≡ true
    → giver_of_kind n k (kind_of step) b ≡ sender n k step b
giver_is_sender n k (Instruct nano) b round = over nano.dir (grind (arith, nat_tests))
  where
    over : (to : Dir) → is_vertical to ≡ true → giver_of_kind n k (kind_over to) b ≡ sender_over k to b
    over dir.North v = refl
    over dir.South v = refl
    over dir.East v = absurd (let wrong : false ≡ true = v in cc)
    over dir.West v = absurd (let wrong : false ≡ true = v in cc)
giver_is_sender n k Look b round = absurd (let wrong : false ≡ true = round in cc)
giver_is_sender n k Inject b round = absurd (let wrong : false ≡ true = round in cc)
giver_is_sender n k (Cross d) b round = refl
giver_is_sender n k Deliver b round = absurd (let wrong : false ≡ true = round in cc)

-- ---- one turn of one block

-- the round of a phase is one of the run
following_none : (n k : ℕ) (acts : List Act) → IsFollowing n k acts None
following_none n k acts round is = absurd (let wrong : None ≡ Some round = is in cc)

following_phase : (n k r : ℕ) (acts : List Act) (phase : Phase) → slice_get (rounds n k acts) r ≡ Some phase
    → IsFollowing n k acts (Some (round_of phase))
following_phase n k r acts phase at round is =
    let same : round_of phase ≡ round = cc in
    subst (λ (x : Round). IsRoundOf n k acts x) same (round_is_followed n k r acts phase at).round

following_at : (n k r : ℕ) (acts : List Act) (one : Option Phase) → slice_get (rounds n k acts) r ≡ one
    → IsFollowing n k acts (option_map round_of one)
following_at n k r acts None at = following_none n k acts
following_at n k r acts (Some phase) at = following_phase n k r acts phase at

pub following_next : (n k r : ℕ) (acts : List Act) → IsFollowing n k acts (slice_get (rounds_of n k acts) r)
following_next n k r acts =
    subst (λ (x : Option Round). IsFollowing n k acts x) (sym (slice_get-map round_of (rounds n k acts) r))
    (following_at n k r acts (slice_get (rounds n k acts) r) refl)

-- what a part sends in a round, if there is one
abbrev pub sent_at : ℕ → ℕ → ℕ → Option Phase → Part → Post
sent_at n k room None s = blank_post n k
sent_at n k room (Some phase) s = post_of n k (kind_of phase.step) (due n room phase.step s)

count_of_block : (n k b : ℕ) (machine : Machine) → (block n k b machine).count ≡ block_size n k
unfolding part
count_of_block n k b machine = refl

-- ---- ready for a turn

module _ (n k room : ℕ) (machine : Machine) (acts : List Act) (b : ℕ) (next : Option Round)
    (kept : BlockView) (post : Post) (dims : kept.kept.dims ≡ n) (blocks : kept.k ≡ k) (rooms : kept.kept.room ≡ room)
    (ahead_is : IsFollowing n k acts next) where
  -- what is told of these sizes is told of the block's own
  as_own : (before : Option Round) → IsFollowing n k acts before → HasComeBefore n k room before kept.kept.part post
      → HaveLogRoom (events_in room (local_after n k acts before)) kept.kept.log_rooms
      → kept.kept.part.clock + deliveries (local_after n k acts before) < 2 ^ 63 → IsReadyForTurn acts before next kept post
  as_own before behind come log_room clock = record {
    behind = subst (λ (d : ℕ). IsFollowing d kept.k acts before) (sym dims)
        (subst (λ (j : ℕ). IsFollowing n j acts before) (sym blocks) behind);
    ahead = subst (λ (d : ℕ). IsFollowing d kept.k acts next) (sym dims)
        (subst (λ (j : ℕ). IsFollowing n j acts next) (sym blocks) ahead_is);
    come = subst (λ (d : ℕ). HasComeBefore d kept.k kept.kept.room before kept.kept.part post) (sym dims)
        (subst (λ (j : ℕ). HasComeBefore n j kept.kept.room before kept.kept.part post) (sym blocks)
        (subst (λ (r : ℕ). HasComeBefore n k r before kept.kept.part post) (sym rooms) come));
    log_room = subst (λ (d : ℕ). HaveLogRoom (events_in kept.kept.room (local_after d kept.k acts before))
        kept.kept.log_rooms) (sym dims)
        (subst (λ (j : ℕ). HaveLogRoom (events_in kept.kept.room (local_after n j acts before)) kept.kept.log_rooms)
        (sym blocks)
        (subst (λ (r : ℕ). HaveLogRoom (events_in r (local_after n k acts before)) kept.kept.log_rooms)
        (sym rooms) log_room));
    clock = subst (λ (d : ℕ). kept.kept.part.clock + deliveries (local_after d kept.k acts before) < 2 ^ 63) (sym dims)
        (subst (λ (j : ℕ). kept.kept.part.clock + deliveries (local_after n j acts before) < 2 ^ 63)
        (sym blocks) clock);
  }

  pub ready_first : StandsAt n k room machine acts 0 b kept post → IsReadyForTurn acts None next kept post
  ready_first at =
      as_own None (following_none n k acts) at.come
      (less_room (events_in room (local_after n k acts None)) (cycles_in acts * (4 + room)) kept.kept.log_rooms
      (let f = (events_shared room).first n k acts in omega (arith, f)) at.log_room)
      (let f = deliveries_shared.first n k acts in let c = at.clock in omega (arith, f, c))

  pub ready_later : (r : ℕ) (phase : Phase) → slice_get (rounds n k acts) r ≡ Some phase
      → StandsAt n k room machine acts (suc r) b kept post
      → IsReadyForTurn acts (Some (round_of phase)) next kept post
  ready_later r phase is at =
      let now : Machine = before_round n room k machine acts r in
      let told = round_is_followed n k r acts phase is in
      let sent : Part = block n k (sender n k phase.step b) now in
      let parcel : Parcel = due n room phase.step sent in
      let came : post ≡ post_of n k (kind_of phase.step) parcel = at.come
      ∙ ap (λ (o : Option Phase). come_in n k room o b now) is in
      let lane : lane_in (kind_of phase.step) post ≡ parcel =
      ap (λ (p : Post). lane_in (kind_of phase.step) p) came ∙ lane_of_post n k (kind_of phase.step) parcel in
      let steps = sym told.between in
      let left : kept.kept.part ≡ less room phase.step (block n k b now) = at.part
      ∙ ap (λ (o : Option Phase). without_sent room o (block n k b now)) is in
      as_own (Some (round_of phase)) (following_phase n k r acts phase is)
      (record {
        kind = subst (λ (p : Parcel). IsOfKind n k (kind_of phase.step) p) (sym lane)
            (due_of_kind n k room phase.step sent told.exchanges (count_of_block n k (sender n k phase.step b) now));
        space = room_for (kind_of phase.step) room kept.kept.part (lane_in (kind_of phase.step) post)
            (subst (λ (o : Option Phase). HaveSpaceAt room o kept.kept.part) is at.space)
            (subst (λ (s : Part). SparesCuts (kind_of phase.step) s (lane_in (kind_of phase.step) post)) (sym left)
            (subst (λ (p : Parcel). SparesCuts (kind_of phase.step) (less room phase.step (block n k b now)) p) (sym lane)
            (cuts_are_spared n room k b now phase.step told.exchanges)));
        other = came ∙ ap (λ (p : Parcel). post_of n k (kind_of phase.step) p) (sym lane);
      })
      (subst (λ (xs : List Step). HaveLogRoom (events_in room xs) kept.kept.log_rooms) told.between
      (less_room (events_in room (steps_between n k acts r)) (events_in room (steps_after_round n k acts r)) kept.kept.log_rooms
      (let f = (events_shared room).next n k r acts in omega (arith, f)) at.log_room))
      (subst (λ (xs : List Step). kept.kept.part.clock + deliveries xs < 2 ^ 63) told.between
      (let f = deliveries_shared.next n k r acts in let c = at.clock in omega (arith, f, c)))

-- ---- after it

-- what block b has sent when turn t is over, at a round if there is one ahead
pub record HasSentAt (n k room : ℕ) (machine : Machine) (acts : List Act) (t b : ℕ) (ahead_it : Option Phase)
    (kept : BlockView) (sent : Post) : Type 0 where
  pub blocks : kept.k ≡ k
  pub dims : kept.kept.dims ≡ n
  pub room_is : kept.kept.room ≡ room
  pub part : kept.kept.part ≡ without_sent room ahead_it (block n k b (before_round n room k machine acts t))
  pub sends : sent ≡ sent_at n k room ahead_it (block n k b (before_round n room k machine acts t))
  pub space : HaveSpaceAt room ahead_it kept.kept.part
  pub log_room : HaveLogRoom (events_in room (steps_after_round n k acts t)) kept.kept.log_rooms
  pub clock : kept.kept.part.clock + deliveries (steps_after_round n k acts t) < 2 ^ 63

-- what is left of a part after it has sent is the same by the worker's rounds and by the definitions' phases
left_as_phase : (n k room t : ℕ) (acts : List Act) (one : Option Phase) (s : Part) → slice_get (rounds n k acts) t ≡ one
    → left_in room (option_map round_of one) s ≡ without_sent room one s
left_as_phase n k room t acts None s is = refl
left_as_phase n k room t acts (Some phase) s is =
    ap (λ (step : Step). less room step s) (round_is_followed n k t acts phase is).step

-- and what it has sent
sent_as_phase : (n k room t : ℕ) (acts : List Act) (one : Option Phase) (s : Part) → slice_get (rounds n k acts) t ≡ one
    → sent_by n k room (option_map round_of one) s ≡ sent_at n k room one s
sent_as_phase n k room t acts None s is = refl
sent_as_phase n k room t acts (Some phase) s is =
    ap (λ (step : Step). post_of n k (kind_of phase.step) (due n room step s))
    (round_is_followed n k t acts phase is).step

clock_without : (room : ℕ) (one : Option Phase) (s : Part) → (without_sent room one s).clock ≡ s.clock
clock_without room None s = refl
clock_without room (Some phase) s = clock_left room phase.step s

clock_taken : (n room : ℕ) (before : Option Round) (post : Post) (s : Part)
    → (part_taken_in n room before post s).clock ≡ s.clock
clock_taken n room None post s = refl
clock_taken n room (Some round) post s = clock_stands n room (step_of round) (lane_in round.kind post) s

space_as_phase : (room : ℕ) (one : Option Phase) (block : BlockView) → block.kept.room ≡ room
    → HaveSpaceIn (option_map round_of one) block
    → HaveSpaceAt room one block.kept.part
space_as_phase room None block is space = tt
space_as_phase room (Some phase) block is space =
    subst (λ (r : ℕ). HaveSpaceFor (kind_of phase.step) r block.kept.part) is space

module _ (n k room t b : ℕ) (machine : Machine) (acts : List Act) (before : Option Round)
    (one : Option Phase) (kept new : BlockView) (post sent : Post) (dims : kept.kept.dims ≡ n) (blocks : kept.k ≡ k)
    (rooms : kept.kept.room ≡ room) (is : slice_get (rounds n k acts) t ≡ one) where
  pub has_sent : part_gone_on n k room acts before post kept.kept.part ≡ block n k b (before_round n room k machine acts t)
      → (all_events all_cycles : ℕ)
      → events_in room (local_after n k acts before) + events_in room (steps_after_round n k acts t) ≡ all_events
      → deliveries (local_after n k acts before) + deliveries (steps_after_round n k acts t) ≡ all_cycles
      → HaveLogRoom all_events kept.kept.log_rooms → kept.kept.part.clock + all_cycles < 2 ^ 63
      → HasGone acts before (option_map round_of one) kept post new sent
      → HasSentAt n k room machine acts t b one new sent
  has_sent reached all_events all_cycles events cycles log_room clock gone =
      let now : Part = block n k b (before_round n room k machine acts t) in
      let own : Part = part_gone_on kept.kept.dims kept.k kept.kept.room acts before post kept.kept.part in
      let own_is : own ≡ now =
      ap (λ (d : ℕ). part_gone_on d kept.k kept.kept.room acts before post kept.kept.part) dims
      ∙ ap (λ (j : ℕ). part_gone_on n j kept.kept.room acts before post kept.kept.part) blocks
      ∙ ap (λ (r : ℕ). part_gone_on n k r acts before post kept.kept.part) rooms ∙ reached in
      let part : new.kept.part ≡ without_sent room one now =
      gone.part ∙ ap (λ (r : ℕ). left_in r (option_map round_of one) own) rooms
      ∙ ap (λ (s : Part). left_in room (option_map round_of one) s) own_is
      ∙ left_as_phase n k room t acts one now is in
      let counted : now.clock ≡ kept.kept.part.clock + deliveries (local_after n k acts before) =
      ap (λ (s : Part). s.clock) (sym reached)
      ∙ clock_after_all n room (local_after n k acts before) (part_taken_in n room before post kept.kept.part)
      ∙ ap (λ (c : ℕ). c + deliveries (local_after n k acts before)) (clock_taken n room before post kept.kept.part) in
      let clock_now : new.kept.part.clock ≡ kept.kept.part.clock + deliveries (local_after n k acts before) =
      ap (λ (s : Part). s.clock) part ∙ clock_without room one now ∙ counted in
      let lost : LoseAtMost (events_in room (local_after n k acts before)) kept.kept.log_rooms new.kept.log_rooms =
      subst (λ (d : ℕ). LoseAtMost (events_in room (local_after d k acts before))
      kept.kept.log_rooms new.kept.log_rooms) dims
      (subst (λ (j : ℕ). LoseAtMost (events_in room (local_after kept.kept.dims j acts before))
      kept.kept.log_rooms new.kept.log_rooms) blocks
      (subst (λ (r : ℕ). LoseAtMost (events_in r (local_after kept.kept.dims kept.k acts before))
      kept.kept.log_rooms new.kept.log_rooms) rooms gone.log_room)) in
      record {
        blocks = gone.same.blocks ∙ blocks;
        dims = gone.same.dims ∙ dims;
        room_is = gone.same.room ∙ rooms;
        part = part;
        sends = gone.sends ∙ ap (λ (d : ℕ). sent_by d kept.k kept.kept.room (option_map round_of one) own) dims
            ∙ ap (λ (j : ℕ). sent_by n j kept.kept.room (option_map round_of one) own) blocks
            ∙ ap (λ (r : ℕ). sent_by n k r (option_map round_of one) own) rooms
            ∙ ap (λ (s : Part). sent_by n k room (option_map round_of one) s) own_is
            ∙ sent_as_phase n k room t acts one now is;
        space = space_as_phase room one new (gone.same.room ∙ rooms) gone.space;
        log_room = room_left (events_in room (local_after n k acts before)) (events_in room (steps_after_round n k acts t))
            all_events kept.kept.log_rooms new.kept.log_rooms
            events log_room lost;
        clock = omega (arith, clock_now, cycles, clock);
      }

-- ---- what came is what the sender sent

pub stands_next : (n k room t b : ℕ) (machine : Machine) (acts : List Act) (phase : Phase)
    (kept giver_kept : BlockView) (came gave : Post)
    → slice_get (rounds n k acts) t ≡ Some phase → HasSentAt n k room machine acts t b (Some phase) kept gave
    → came ≡ sent_at n k room (Some phase)
    (block n k (giver_of_kind n k (kind_of phase.step) b) (before_round n room k machine acts t))
    → StandsAt n k room machine acts (suc t) b kept came
stands_next n k room t b machine acts phase kept giver_kept came gave is at came_is =
    let now : Machine = before_round n room k machine acts t in
    let told = round_is_followed n k t acts phase is in record {
      blocks = at.blocks;
      dims = at.dims;
      room_is = at.room_is;
      part = at.part ∙ ap (λ (o : Option Phase). without_sent room o (block n k b now)) (sym is);
      come = came_is
          ∙ ap (λ (from : ℕ). post_of n k (kind_of phase.step) (due n room phase.step (block n k from now)))
          (giver_is_sender n k phase.step b told.exchanges)
          ∙ ap (λ (o : Option Phase). come_in n k room o b now) (sym is);
      space = subst (λ (o : Option Phase). HaveSpaceAt room o kept.kept.part) (sym is) at.space;
      log_room = at.log_room;
      clock = at.clock;
    }
