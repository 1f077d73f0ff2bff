-- Blocks from round to round of a run.
use Rattle.std.proofs.Common.{◌≡◌, ℕ, ◌+◌, ◌-◌, ◌*◌, ◌/◌, ◌<◌, ◌≤◌, ◌^◌, true, false}
use Rattle.std.proofs.Common.{List, Option, Some, None, length, refl, ap, sym, subst, ◌∙◌, arith, eq-eqb}
use Rattle.std.specs.Prelude.{slice_get}
use Rattle.std.specs.Option.{option_map, ForSome}
use Rattle.std.proofs.lemmas.Option.{slice_get-map}
use Rattle.std.proofs.lemmas.Bool.Decides.{nat_tests}
use Rattle.cm_bits.specs.declared.plane.Dir.{Dir}
use Rattle.cm_bits.specs.declared.plane.Dir.TheVariants as dir
use Rattle.cm_model.specs.declared.act.Act.{Act}
use Rattle.cm_model.specs.Machine.{Machine}
use Rattle.cm_model.specs.Steps.{Step, Instruct, Look, Inject, Cross, Deliver, Phase}
use Rattle.cm_blocks.specs.Counts.{deliveries, events_in}
use Rattle.cm_blocks.specs.Parts.{Part, part, block, block_size}
use Rattle.cm_blocks.specs.Parcels.{Parcel, due, sender, sender_over}
use Rattle.cm_blocks.specs.Rounds.{is_round, is_vertical, rounds, before_round, steps_between, steps_after_round}
use Rattle.cm_blocks.specs.Steps.{part_after, part_after_all, less, absorbed}
use Rattle.cm_blocks.proofs.Rounding.{blocks_begin, blocks_go_on}
use Rattle.cm_blocks.proofs.Filling.{leaving_then_taking_in}
use Rattle.cm_router.specs.Logs.{HaveLogRoom}
use Rattle.cm_router.proofs.Rooms.{room_left, less_room}
use Rattle.cm_array.specs.Acts.{cycles_in}
use Rattle.cm_subcube.specs.declared.round.Kind.{Kind}
use Rattle.cm_subcube.specs.declared.round.Round.{Round}
use Rattle.cm_subcube.specs.Blocks.{BlockView}
use Rattle.cm_subcube.proofs.Clocks.{clock_after_all, clock_left, due_of_kind}
use Rattle.cm_subcube.specs.Rounds.{kind_of, kind_over, round_of, rounds_of, step_of}
use Rattle.cm_subcube.specs.Parcels.{blank_parcel, IsOfKind, HaveSpaceFor, SparesCuts, IsExchange}
use Rattle.cm_subcube.specs.Local.{local_after, IsRoundOf}
use Rattle.cm_subcube.specs.Laws.{IsFollowed}
use Rattle.cm_subcube.proofs.Counting.{steps_until-first, deliveries_shared, events_shared}
use Rattle.cm_subcube.proofs.Following.{round_is_followed}
use Rattle.cm_subcube.proofs.Sparing.{cuts_are_spared, room_for}
use Rattle.cm_board.specs.Courses.{Course, due_now}
use Rattle.cm_gates.specs.Handing.{giver_of_kind}
use Rattle.cm_gates.specs.Blocks.{IsShown}
use Rattle.cm_turns.specs.Lanes.{Run, before, rounds_in, place_of_kind, kind_of_index, is_over, passed, parcel_sent, dues, course}
use Rattle.cm_turns.specs.Standing.{IsRunBlock, StandsBefore}
use Rattle.cm_turns.specs.Turns.{CanGoOn, HasGoneOn, CanSend, HasSent, CanGet, HasGot}
use Rattle.cm_turns.proofs.Absorbing.{clock_stands}
use Rattle.cm_turns.proofs.Picking.{picked, picked_below}
use Rattle.cm_turns.proofs.Ends.{kind_of_place}

-- ---- a run of the sizes of a block

pub record HasSizes (run : Run) (one : BlockView) : Type 0 where
  pub blocks : one.k ≡ run.k
  pub dims : one.kept.dims ≡ run.n
  pub room_is : one.kept.room ≡ run.room

abbrev own_run : Run → BlockView → Run
own_run run one =
    record { n = one.kept.dims; k = one.k; room = one.kept.room; machine = run.machine; acts = run.acts }

same_run : (run : Run) (one : BlockView) → HasSizes run one → own_run run one ≡ run
same_run run one s i =
    record { n = s.dims i; k = s.blocks i; room = s.room_is i; machine = run.machine; acts = run.acts }

-- what is shown of runs of a block's own sizes is so of the run
at_own : (run : Run) (one : BlockView) (P : Run → Type 0) → HasSizes run one → P (own_run run one) → P run
at_own run one P s p = subst P (same_run run one s) p

as_own : (run : Run) (one : BlockView) (P : Run → Type 0) → HasSizes run one → P run → P (own_run run one)
as_own run one P s p = subst P (sym (same_run run one s)) p

-- ---- what a round sends

-- the giver of a kind is the sender at the step
giver_is_sender : (n k : ℕ) (step : Step) (b : ℕ) → is_round n k step ≡ true
    → giver_of_kind n k (kind_of step) b ≡ sender n k step b
giver_is_sender n k (Instruct nano) b round = over nano.dir (grind (arith, nat_tests))
  where
    over : (to : Dir) → is_vertical to ≡ true → giver_of_kind n k (kind_over to) b ≡ sender_over k to b
    over dir.North v = refl
    over dir.South v = refl
    over dir.East v = absurd (let wrong : false ≡ true = v in cc)
    over dir.West v = absurd (let wrong : false ≡ true = v in cc)
giver_is_sender n k Look b round = absurd (let wrong : false ≡ true = round in cc)
giver_is_sender n k Inject b round = absurd (let wrong : false ≡ true = round in cc)
giver_is_sender n k (Cross d) b round = refl
giver_is_sender n k Deliver b round = absurd (let wrong : false ≡ true = round in cc)

pub count_of_block : (n k b : ℕ) (machine : Machine) → (block n k b machine).count ≡ block_size n k
unfolding part
count_of_block n k b machine = refl

-- ---- to the first round

following_none : (n k : ℕ) (acts : List Act) → ForSome None (λ round. IsRoundOf n k acts round)
following_none n k acts round is = absurd (let wrong : None ≡ Some round = is in cc)

can_begin_own : (run : Run) (b : ℕ) (one : BlockView) → IsRunBlock (own_run run one) b one → CanGoOn run.acts None one
can_begin_own run b one cut = let n = one.kept.dims in let k = one.k in let room = one.kept.room in record {
  following = following_none n k run.acts;
  log_room = less_room (events_in room (local_after n k run.acts None)) (cycles_in run.acts * (4 + room))
      one.kept.log_rooms (let f = (events_shared room).first n k run.acts in omega (arith, f)) cut.log_room;
  clock = let f = deliveries_shared.first n k run.acts in let c = cut.clock in omega (arith, f, c);
}

pub can_begin : (run : Run) (b : ℕ) (one : BlockView) → IsRunBlock run b one → CanGoOn run.acts None one
can_begin run b one cut =
    can_begin_own run b one (as_own run one (λ x. IsRunBlock x b one)
    (record { blocks = cut.blocks; dims = cut.dims; room_is = cut.room_is }) cut)

begun_own : (run : Run) (b : ℕ) (old new : BlockView) → old.k ≤ old.kept.dims - old.kept.dims / 2 → b < 2 ^ old.k
    → IsRunBlock (own_run run old) b old → HasGoneOn run.acts None old new → StandsBefore (own_run run old) 0 b new
begun_own run b old new within below cut gone =
    let n = old.kept.dims in let k = old.k in let room = old.kept.room in let acts = run.acts in
    let part_is : new.kept.part ≡ block n k b (before_round n room k run.machine acts 0) =
    gone.part ∙ ap (λ (x : Part). part_after_all n room (local_after n k acts None) x) cut.part
    ∙ ap (λ (steps : List Step). part_after_all n room steps (block n k b run.machine)) (sym (steps_until-first n k acts))
    ∙ sym (blocks_begin n room k b run.machine acts within below) in
    let counted : new.kept.part.clock ≡ old.kept.part.clock + deliveries (local_after n k acts None) =
    ap (λ (s : Part). s.clock) gone.part ∙ clock_after_all n room (local_after n k acts None) old.kept.part in record {
      blocks = gone.same.blocks;
      dims = gone.same.dims;
      room_is = gone.same.room;
      part = part_is;
      log_room = room_left (events_in room (local_after n k acts None)) (events_in room (steps_after_round n k acts 0))
          (cycles_in acts * (4 + room)) old.kept.log_rooms new.kept.log_rooms ((events_shared room).first n k acts)
          cut.log_room gone.log_room;
      clock = let f = deliveries_shared.first n k acts in let c = cut.clock in omega (arith, f, c, counted);
    }

pub begun : (run : Run) (b : ℕ) (old new : BlockView) → run.k ≤ run.n - run.n / 2 → b < 2 ^ run.k
    → IsRunBlock run b old → HasGoneOn run.acts None old new → StandsBefore run 0 b new
begun run b old new within below cut gone =
    let s : HasSizes run old = record { blocks = cut.blocks; dims = cut.dims; room_is = cut.room_is } in
    at_own run old (λ x. StandsBefore x 0 b new) s
    (begun_own run b old new (as_own run old (λ x. x.k ≤ x.n - x.n / 2) s within)
    (as_own run old (λ x. b < 2 ^ x.k) s below) (as_own run old (λ x. IsRunBlock x b old) s cut) gone)

-- a block that may be read stands as it did
pub shown : (run : Run) (r b : ℕ) (old new : BlockView) → StandsBefore run r b old → IsShown old new
    → StandsBefore run r b new
shown run r b old new st is = subst (λ (x : BlockView). StandsBefore run r b x)
    (let same : record { k = old.k; kept = record old.kept { gathered = new.kept.gathered } } ≡ new =
    (λ i. record { k = sym is.blocks i; kept = sym is.kept i }) in same)
    (record { blocks = st.blocks; dims = st.dims; room_is = st.room_is; part = st.part; log_room = st.log_room; clock = st.clock })

-- ---- the rounds of a run, by their phases

pub record Found (n k r : ℕ) (acts : List Act) (round : Round) : Type 0 where
  pub phase : Phase
  pub at : slice_get (rounds n k acts) r ≡ Some phase
  pub is : round_of phase ≡ round

found_by : (n k r : ℕ) (acts : List Act) (round : Round) (one : Option Phase) → slice_get (rounds n k acts) r ≡ one
    → option_map round_of one ≡ Some round → Found n k r acts round
found_by n k r acts round None at e = absurd (let wrong : None ≡ Some round = e in cc)
found_by n k r acts round (Some phase) at e =
    record { phase = phase; at = at; is = (let same : Some (round_of phase) ≡ Some round = e in cc) }

pub found : (n k r : ℕ) (acts : List Act) (round : Round) → slice_get (rounds_of n k acts) r ≡ Some round
    → Found n k r acts round
found n k r acts round is =
    found_by n k r acts round (slice_get (rounds n k acts) r) refl (sym (slice_get-map round_of (rounds n k acts) r) ∙ is)

pub exchange_of : (run : Run) (r : ℕ) (round : Round) → slice_get (rounds_in run) r ≡ Some round
    → IsExchange run.n run.k round
exchange_of run r round is = let f = found run.n run.k r run.acts round is in
    subst (λ (x : Round). IsExchange run.n run.k x) f.is
    (round_is_followed run.n run.k r run.acts f.phase f.at).round.exchange

-- ---- at a round

module _ (run : Run) (r : ℕ) (phase : Phase) (at : slice_get (rounds run.n run.k run.acts) r ≡ Some phase) where
  abbrev round_it : Round
  round_it = round_of phase

  abbrev place_it : ℕ
  place_it = place_of_kind run.n run.k (kind_of phase.step)

  abbrev told_it : IsFollowed run.n run.k r run.acts phase
  told_it = round_is_followed run.n run.k r run.acts phase at

  listed : slice_get (rounds_in run) r ≡ Some round_it
  listed = slice_get-map round_of (rounds run.n run.k run.acts) r ∙ ap (option_map round_of) at

  kind_is : kind_of_index run.n run.k place_it ≡ kind_of phase.step
  kind_is = kind_of_place run.n run.k phase.act (kind_of phase.step) told_it.round.exchange

  -- what the lane of a block for the round carries then
  carried : (b : ℕ) → due_now (course run b place_it r) ≡ due run.n run.room phase.step (block run.n run.k b (before run r))
  carried b =
      picked (is_over run.n run.k place_it) (parcel_sent run b) 0 (rounds_in run) r round_it
      (blank_parcel run.n run.k (kind_of_index run.n run.k place_it)) listed (eq-eqb place_it place_it refl)
      ∙ ap (λ (j : ℕ). parcel_sent run b j round_it) (let e : 0 + r ≡ r = omega arith in e)
      ∙ ap (λ (step : Step). due run.n run.room step (block run.n run.k b (before run r))) told_it.step

  used_less : (b : ℕ) → passed (is_over run.n run.k place_it) r (rounds_in run) < length (dues run b place_it)
  used_less b = picked_below (is_over run.n run.k place_it) (parcel_sent run b) 0 (rounds_in run) r round_it listed
      (eq-eqb place_it place_it refl)

-- ---- sending

can_send_own : (run : Run) (r b : ℕ) (one : BlockView) (e : Course Parcel) (phase : Phase)
    → slice_get (rounds one.kept.dims one.k run.acts) r ≡ Some phase → StandsBefore (own_run run one) r b one
    → e ≡ course (own_run run one) b (place_of_kind one.kept.dims one.k (kind_of phase.step)) r
    → CanSend (round_of phase) one e
can_send_own run r b one e phase at st is =
    let own : Run = own_run run one in let place : ℕ = place_of_kind own.n own.k (kind_of phase.step) in
    subst (λ (x : Course Parcel). CanSend (round_of phase) one x) (sym is) (record {
      exchange = (round_is_followed own.n own.k r run.acts phase at).round.exchange;
      more = used_less own r phase at b;
      blank = ap (λ (x : Kind). blank_parcel own.n own.k x) (kind_is own r phase at);
      due_is = carried own r phase at b
          ∙ ap (λ (step : Step). due own.n own.room step (block own.n own.k b (before own r)))
          (sym (round_is_followed own.n own.k r run.acts phase at).step)
          ∙ ap (λ (s : Part). due own.n own.room (step_of (round_of phase)) s) (sym st.part);
    })

pub sizes_of : (run : Run) (r b : ℕ) (one : BlockView) → StandsBefore run r b one → HasSizes run one
sizes_of run r b one st = record { blocks = st.blocks; dims = st.dims; room_is = st.room_is }

pub can_send : (run : Run) (r b : ℕ) (round : Round) (one : BlockView) (e : Course Parcel)
    → slice_get (rounds_in run) r ≡ Some round → StandsBefore run r b one
    → e ≡ course run b (place_of_kind run.n run.k round.kind) r → CanSend round one e
can_send run r b round one e at st is =
    let s : HasSizes run one = sizes_of run r b one st in
    let f = found one.kept.dims one.k r run.acts round
    (as_own run one (λ x. slice_get (rounds_in x) r ≡ Some round) s at) in
    subst (λ (x : Round). e ≡ course (own_run run one) b (place_of_kind one.kept.dims one.k x.kind) r → CanSend x one e) f.is
    (can_send_own run r b one e f.phase f.at (as_own run one (λ x. StandsBefore x r b one) s st))
    (as_own run one (λ x. e ≡ course x b (place_of_kind x.n x.k round.kind) r) s is)

-- a block that has sent in a round
pub record StandsSent (run : Run) (r b : ℕ) (round : Round) (one : BlockView) : Type 0 where
  pub blocks : one.k ≡ run.k
  pub dims : one.kept.dims ≡ run.n
  pub room_is : one.kept.room ≡ run.room
  pub part : one.kept.part ≡ less run.room (step_of round) (block run.n run.k b (before run r))
  pub log_room : HaveLogRoom (events_in run.room (steps_after_round run.n run.k run.acts r)) one.kept.log_rooms
  pub clock : one.kept.part.clock + deliveries (steps_after_round run.n run.k run.acts r) < 2 ^ 63
  pub space : HaveSpaceFor round.kind one.kept.room one.kept.part

pub sent : (run : Run) (r b : ℕ) (round : Round) (old new : BlockView) (e : Course Parcel) → StandsBefore run r b old
    → HasSent round old e new → StandsSent run r b round new
sent run r b round old new e st is =
    let part_is : new.kept.part ≡ less run.room (step_of round) (block run.n run.k b (before run r)) =
    is.part ∙ ap (λ (room : ℕ). less room (step_of round) old.kept.part) st.room_is
    ∙ ap (λ (s : Part). less run.room (step_of round) s) st.part in
    let clock_is : new.kept.part.clock ≡ old.kept.part.clock =
    ap (λ (s : Part). s.clock) is.part ∙ clock_left old.kept.room (step_of round) old.kept.part in record {
      blocks = is.same.blocks ∙ st.blocks;
      dims = is.same.dims ∙ st.dims;
      room_is = is.same.room ∙ st.room_is;
      part = part_is;
      log_room = subst (λ (rooms : List ℕ). HaveLogRoom (events_in run.room (steps_after_round run.n run.k run.acts r)) rooms)
          (sym is.log_room) st.log_room;
      clock = subst (λ (c : ℕ). c + deliveries (steps_after_round run.n run.k run.acts r) < 2 ^ 63) (sym clock_is) st.clock;
      space = is.space;
    }

-- ---- getting

module _ (run : Run) (r b : ℕ) (phase : Phase) (one : BlockView)
    (at : slice_get (rounds one.kept.dims one.k run.acts) r ≡ Some phase)
    (st : StandsSent (own_run run one) r b (round_of phase) one) where
  abbrev own_it : Run
  own_it = own_run run one

  abbrev sender_it : ℕ
  sender_it = sender one.kept.dims one.k phase.step b

  abbrev parcel_it : Parcel
  parcel_it = due one.kept.dims one.kept.room phase.step (block one.kept.dims one.k sender_it (before own_it r))

  abbrev place_got : ℕ
  place_got = place_of_kind one.kept.dims one.k (kind_of phase.step)

  abbrev followed_it : IsFollowed one.kept.dims one.k r run.acts phase
  followed_it = round_is_followed one.kept.dims one.k r run.acts phase at

  -- the end of the lane of its giver
  abbrev giver_end : Course Parcel
  giver_end = course own_it (giver_of_kind one.kept.dims one.k (kind_of_index one.kept.dims one.k place_got) b) place_got r

  came : due_now giver_end ≡ parcel_it
  came = carried own_it r phase at (giver_of_kind one.kept.dims one.k (kind_of_index one.kept.dims one.k place_got) b)
      ∙ ap (λ (from : ℕ). due one.kept.dims one.kept.room phase.step (block one.kept.dims one.k from (before own_it r)))
      (ap (λ (x : Kind). giver_of_kind one.kept.dims one.k x b) (kind_is own_it r phase at)
      ∙ giver_is_sender one.kept.dims one.k phase.step b followed_it.exchanges)

  abbrev here_it : Part
  here_it = block one.kept.dims one.k b (before own_it r)

  left_it : one.kept.part ≡ less one.kept.room phase.step here_it
  left_it = st.part ∙ ap (λ (step : Step). less one.kept.room step here_it) followed_it.step

  can_get_own : CanGet run.acts (round_of phase) one giver_end
  can_get_own = record {
    exchange = followed_it.round.exchange;
    more = used_less own_it r phase at (giver_of_kind one.kept.dims one.k (kind_of_index one.kept.dims one.k place_got) b);
    blank = ap (λ (x : Kind). blank_parcel one.kept.dims one.k x) (kind_is own_it r phase at);
    kind = subst (λ (p : Parcel). IsOfKind one.kept.dims one.k (kind_of phase.step) p) (sym came)
        (due_of_kind one.kept.dims one.k one.kept.room phase.step (block one.kept.dims one.k sender_it (before own_it r))
        followed_it.exchanges (count_of_block one.kept.dims one.k sender_it (before own_it r)));
    space = room_for (kind_of phase.step) one.kept.room one.kept.part (due_now giver_end) st.space
        (subst (λ (s : Part). SparesCuts (kind_of phase.step) s (due_now giver_end)) (sym left_it)
        (subst (λ (p : Parcel). SparesCuts (kind_of phase.step) (less one.kept.room phase.step here_it) p) (sym came)
        (cuts_are_spared one.kept.dims one.kept.room one.k b (before own_it r) phase.step followed_it.exchanges)));
    going = record {
      following = λ x same. subst (λ (y : Round). IsRoundOf one.kept.dims one.k run.acts y)
          (let e : round_of phase ≡ x = (let f : Some (round_of phase) ≡ Some x = same in cc) in e) followed_it.round;
      log_room = subst (λ (xs : List Step). HaveLogRoom (events_in one.kept.room xs) one.kept.log_rooms)
          followed_it.between
          (less_room (events_in one.kept.room (steps_between one.kept.dims one.k run.acts r))
          (events_in one.kept.room (steps_after_round one.kept.dims one.k run.acts r)) one.kept.log_rooms
          (let f = (events_shared one.kept.room).next one.kept.dims one.k r run.acts in omega (arith, f)) st.log_room);
      clock = subst (λ (xs : List Step). one.kept.part.clock + deliveries xs < 2 ^ 63) followed_it.between
          (let f = deliveries_shared.next one.kept.dims one.k r run.acts in let c = st.clock in omega (arith, f, c));
    };
  }

  got_own : one.k ≤ one.kept.dims - one.kept.dims / 2 → b < 2 ^ one.k → (new : BlockView)
      → HasGot run.acts (round_of phase) one giver_end new → StandsBefore own_it (r + 1) b new
  got_own within below new got =
      let n = one.kept.dims in let k = one.k in let room = one.kept.room in let acts = run.acts in
      let now : Machine = before own_it r in
      let taken : absorbed n room (step_of (round_of phase)) (due_now giver_end) one.kept.part
      ≡ part_after n room phase.step parcel_it (block n k b now) =
      ap (λ (step : Step). absorbed n room step (due_now giver_end) one.kept.part) followed_it.step
      ∙ ap (λ (p : Parcel). absorbed n room phase.step p one.kept.part) came
      ∙ ap (λ (s : Part). absorbed n room phase.step parcel_it s)
      left_it
      ∙ leaving_then_taking_in n room k b now phase.step (omega (arith, within)) below
      followed_it.is_step followed_it.exchanges in
      let part_is : new.kept.part ≡ block n k b (before own_it (r + 1)) =
      got.part
      ∙ ap (λ (s : Part). part_after_all n room (local_after n k acts (Some (round_of phase))) s) taken
      ∙ ap (λ (steps : List Step). part_after_all n room steps (part_after n room phase.step parcel_it (block n k b now)))
      (sym followed_it.between)
      ∙ sym (blocks_go_on n room k b r run.machine acts phase within below at) in
      let counted : new.kept.part.clock
      ≡ one.kept.part.clock + deliveries (local_after n k acts (Some (round_of phase))) =
      ap (λ (s : Part). s.clock) got.part
      ∙ clock_after_all n room (local_after n k acts (Some (round_of phase)))
      (absorbed n room (step_of (round_of phase)) (due_now giver_end) one.kept.part)
      ∙ ap (λ (c : ℕ). c + deliveries (local_after n k acts (Some (round_of phase))))
      (clock_stands n room (step_of (round_of phase)) (due_now giver_end) one.kept.part) in
      let shared : deliveries (local_after n k acts (Some (round_of phase))) + deliveries (steps_after_round n k acts (r + 1))
      ≡ deliveries (steps_after_round n k acts r) =
      ap (λ steps. deliveries steps + deliveries (steps_after_round n k acts (r + 1))) (sym followed_it.between)
      ∙ deliveries_shared.next n k r acts in
      let events : events_in room (local_after n k acts (Some (round_of phase))) + events_in room (steps_after_round n k acts (r + 1))
      ≡ events_in room (steps_after_round n k acts r) =
      ap (λ steps. events_in room steps + events_in room (steps_after_round n k acts (r + 1))) (sym followed_it.between)
      ∙ (events_shared room).next n k r acts in record {
        blocks = got.same.blocks;
        dims = got.same.dims;
        room_is = got.same.room;
        part = part_is;
        log_room = room_left (events_in room (local_after n k acts (Some (round_of phase))))
            (events_in room (steps_after_round n k acts (r + 1))) (events_in room (steps_after_round n k acts r)) one.kept.log_rooms
            new.kept.log_rooms events st.log_room got.log_room;
        clock = let c = st.clock in omega (arith, counted, shared, c);
      }

sizes_sent : (run : Run) (r b : ℕ) (round : Round) (one : BlockView) → StandsSent run r b round one → HasSizes run one
sizes_sent run r b round one st = record { blocks = st.blocks; dims = st.dims; room_is = st.room_is }

abbrev end_from : Run → ℕ → Kind → ℕ → Course Parcel
end_from run b over r = course run (giver_of_kind run.n run.k (kind_of_index run.n run.k (place_of_kind run.n run.k over)) b)
    (place_of_kind run.n run.k over) r

pub can_get : (run : Run) (r b : ℕ) (round : Round) (one : BlockView) (e : Course Parcel)
    → slice_get (rounds_in run) r ≡ Some round → StandsSent run r b round one
    → e ≡ course run (giver_of_kind run.n run.k (kind_of_index run.n run.k (place_of_kind run.n run.k round.kind)) b)
    (place_of_kind run.n run.k round.kind) r
    → CanGet run.acts round one e
can_get run r b round one e at st is =
    let s : HasSizes run one = sizes_sent run r b round one st in
    let f = found one.kept.dims one.k r run.acts round
    (as_own run one (λ x. slice_get (rounds_in x) r ≡ Some round) s at) in
    subst (λ (x : Round). StandsSent (own_run run one) r b x one → e ≡ end_from (own_run run one) b x.kind r
    → CanGet run.acts x one e) f.is
    (λ own_st own_is. subst (λ (v : Course Parcel). CanGet run.acts (round_of f.phase) one v) (sym own_is)
    (can_get_own run r b f.phase one f.at own_st))
    (as_own run one (λ x. StandsSent x r b round one) s st)
    (as_own run one (λ x. e ≡ end_from x b round.kind r) s is)

pub got : (run : Run) (r b : ℕ) (round : Round) (one new : BlockView) (e : Course Parcel)
    → run.k ≤ run.n - run.n / 2 → b < 2 ^ run.k
    → slice_get (rounds_in run) r ≡ Some round → StandsSent run r b round one
    → e ≡ course run (giver_of_kind run.n run.k (kind_of_index run.n run.k (place_of_kind run.n run.k round.kind)) b)
    (place_of_kind run.n run.k round.kind) r
    → HasGot run.acts round one e new → StandsBefore run (r + 1) b new
got run r b round one new e within below at st is gone =
    let s : HasSizes run one = sizes_sent run r b round one st in
    let f = found one.kept.dims one.k r run.acts round
    (as_own run one (λ x. slice_get (rounds_in x) r ≡ Some round) s at) in
    at_own run one (λ x. StandsBefore x (r + 1) b new) s
    (subst (λ (x : Round). StandsSent (own_run run one) r b x one → e ≡ end_from (own_run run one) b x.kind r
    → HasGot run.acts x one e new → StandsBefore (own_run run one) (r + 1) b new) f.is
    (λ own_st own_is own_gone. got_own run r b f.phase one f.at own_st
    (as_own run one (λ x. x.k ≤ x.n - x.n / 2) s within) (as_own run one (λ x. b < 2 ^ x.k) s below) new
    (subst (λ (v : Course Parcel). HasGot run.acts (round_of f.phase) one v new) own_is own_gone))
    (as_own run one (λ x. StandsSent x r b round one) s st)
    (as_own run one (λ x. e ≡ end_from x b round.kind r) s is) gone)
