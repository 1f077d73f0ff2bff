-- All blocks of a machine from turn to turn of a run: where they stand before each turn.
use Rattle.std.proofs.Common.{◌≡◌, ℕ, zero, suc, ◌+◌, ◌-◌, ◌*◌, ◌/◌, ◌<◌, ◌≤◌, ◌^◌, List, [], ◌∷◌}
use Rattle.std.proofs.Common.{Option, Some, None, length, get_or, refl, ap, sym, subst, ◌∙◌, arith}
use Rattle.std.specs.Prelude.{slice_get}
use Rattle.std.specs.Option.{option_map}
use Rattle.std.proofs.lemmas.Option.{slice_get-map, slice_get_past, get_or_from_slice_get}
use Rattle.std.proofs.lemmas.List.{length-map}
use Rattle.std.proofs.lemmas.Nat.{xor_lt, pow_below, pow_pos}
use Rattle.std.proofs.Math.Nat.{mod-lt}
use Rattle.cm_model.specs.declared.act.Act.{Act}
use Rattle.cm_model.specs.Machine.{Machine}
use Rattle.cm_model.specs.Steps.{Phase}
use Rattle.cm_blocks.specs.Counts.{deliveries, events_in}
use Rattle.cm_blocks.specs.Parts.{block}
use Rattle.cm_blocks.specs.Rounds.{rounds, before_round, steps_between, steps_after_round}
use Rattle.cm_array.specs.Acts.{cycles_in}
use Rattle.cm_subcube.specs.declared.round.Kind.{Kind}
use Rattle.cm_subcube.specs.declared.round.Kind.TheVariants as kind
use Rattle.cm_subcube.specs.declared.round.Round.{Round}
use Rattle.cm_subcube.specs.Blocks.{BlockView}
use Rattle.cm_subcube.specs.Rounds.{kind_of, round_of, rounds_of}
use Rattle.cm_subcube.specs.Parcels.{IsExchangeBy, CanBeOver}
use Rattle.cm_subcube.proofs.Counting.{deliveries_shared, events_shared}
use Rattle.cm_subcube.proofs.Following.{round_is_followed}
use Rattle.cm_workers.specs.declared.post.Post.{Post}
use Rattle.cm_gates.specs.Handing.{giver_of_kind, AreHandedOver}
use Rattle.cm_workers.specs.Posts.{blank_post}
use Rattle.cm_workers.specs.Each.{AreEach}
use Rattle.cm_workers.specs.Turns.{round_before, part_gone_on, IsReadyForTurn, CanAllGo, HasGone}
use Rattle.cm_gates.specs.Blocks.{AreAfter}
use Rattle.cm_workers.specs.Runs.{StandsAt, StandAt, HaveBegun}
use Rattle.cm_workers.proofs.Staging.{first_turn, later_turn, ready_first, ready_later, following_next, has_sent}
use Rattle.cm_workers.proofs.Staging.{HasSentAt, stands_next}

-- an element that is there
record IsThere {X : Type 0} (xs : List X) (i : ℕ) : Type 0 where
  pub one : X
  pub is : slice_get xs i ≡ Some one

there : {X : Type 0} (xs : List X) (i : ℕ) → i < length xs → IsThere xs i
there [] i below = absurd (omega (arith, below))
there (x ∷ xs) zero below = record { one = x; is = refl }
there (x ∷ xs) (suc i) below = let rest = there xs i (omega (arith, below)) in record { one = rest.one; is = rest.is }

module _ (n k room : ℕ) (machine : Machine) (acts : List Act) (within : k ≤ n - n / 2) where
  abbrev rs : List Round
  rs = rounds_of n k acts

  round_is : (r : ℕ) (one : Option Phase) → slice_get (rounds n k acts) r ≡ one
      → slice_get rs r ≡ option_map round_of one
  round_is r one is = slice_get-map round_of (rounds n k acts) r ∙ ap (option_map round_of) is

  as_many : length rs ≡ length (rounds n k acts)
  as_many = length-map (rounds n k acts) round_of

  pub all_can : (t : ℕ) (blocks : List BlockView) (posts : List Post) → t ≤ length rs
      → StandAt n k room machine acts t blocks posts
      → CanAllGo acts (round_before rs t) (slice_get rs t) blocks posts
  all_can zero blocks posts below at = record {
    len = at.post_count ∙ sym at.block_count;
    each = λ b x y l.
        let one = at.each b x y (omega (arith, l, at.block_count)) in
        ready_first n k room machine acts b (slice_get rs 0) (get_or blocks b x) (get_or posts b y)
        one.dims one.blocks one.room_is
        (following_next n k 0 acts) one;
  }
  all_can (suc r) blocks posts below at =
      let it = there (rounds n k acts) r (omega (arith, below, as_many)) in record {
        len = at.post_count ∙ sym at.block_count;
        each = λ b x y l.
            let one = at.each b x y (omega (arith, l, at.block_count)) in
            subst (λ (before : Option Round). IsReadyForTurn acts before (slice_get rs (suc r)) (get_or blocks b x)
            (get_or posts b y)) (sym (round_is r (Some it.one) it.is))
            (ready_later n k room machine acts b (slice_get rs (suc r)) (get_or blocks b x) (get_or posts b y)
            one.dims one.blocks one.room_is
            (following_next n k (suc r) acts) r it.one it.is one);
      }

  -- from the beginning of a turn to its round, by itself
  pub gone_to : (t b : ℕ) (kept : BlockView) (post : Post) → t ≤ length rs → b < 2 ^ k
      → StandsAt n k room machine acts t b kept post
      → part_gone_on n k room acts (round_before rs t) post kept.kept.part
      ≡ block n k b (before_round n room k machine acts t)
  gone_to zero b kept post below l stood = first_turn n k room machine acts within b l kept.kept.part post stood.part
  gone_to (suc r) b kept post below l stood =
      let it = there (rounds n k acts) r (omega (arith, below, as_many)) in
      let more : r + 1 ≡ suc r = omega arith in
      ap (λ (before : Option Round). part_gone_on n k room acts before post kept.kept.part) (round_is r (Some it.one) it.is)
      ∙ later_turn n k room machine acts within b l r it.one kept.kept.part post it.is stood.part stood.come
      ∙ ap (λ (j : ℕ). block n k b (before_round n room k machine acts j)) more

  sent_each : (t : ℕ) (one : Option Phase) (blocks bs : List BlockView) (posts ps : List Post) → t ≤ length rs
      → slice_get (rounds n k acts) t ≡ one
      → StandAt n k room machine acts t blocks posts
      → AreEach (HasGone acts (round_before rs t) (slice_get rs t)) blocks posts bs ps
      → (b : ℕ) (x : BlockView) (y : Post) → b < 2 ^ k
      → HasSentAt n k room machine acts t b one (get_or bs b x) (get_or ps b y)
  sent_each zero one blocks bs posts ps below is at gone b x y l =
      let stood = at.each b x y l in
      has_sent n k room 0 b machine acts None one (get_or blocks b x) (get_or bs b x) (get_or posts b y) (get_or ps b y)
      stood.dims stood.blocks stood.room_is is
      (first_turn n k room machine acts within b l (get_or blocks b x).kept.part (get_or posts b y) stood.part)
      (cycles_in acts * (4 + room)) (cycles_in acts * 1) ((events_shared room).first n k acts)
      (deliveries_shared.first n k acts) stood.log_room stood.clock
      (subst (λ (next : Option Round). HasGone acts None next (get_or blocks b x) (get_or posts b y) (get_or bs b x)
      (get_or ps b y)) (round_is 0 one is)
      (gone.each b x y (omega (arith, l, at.block_count))))
  sent_each (suc r) one blocks bs posts ps below is at gone b x y l =
      let stood = at.each b x y l in
      let it = there (rounds n k acts) r (omega (arith, below, as_many)) in
      let told = round_is_followed n k r acts it.one it.is in
      let more : r + 1 ≡ suc r = omega arith in
      has_sent n k room (suc r) b machine acts (Some (round_of it.one)) one (get_or blocks b x) (get_or bs b x)
      (get_or posts b y) (get_or ps b y)
      stood.dims stood.blocks stood.room_is is
      (later_turn n k room machine acts within b l r it.one (get_or blocks b x).kept.part (get_or posts b y)
      it.is stood.part stood.come
      ∙ ap (λ (j : ℕ). block n k b (before_round n room k machine acts j)) more)
      (events_in room (steps_after_round n k acts r)) (deliveries (steps_after_round n k acts r))
      (ap (λ steps. events_in room steps + events_in room (steps_after_round n k acts (suc r))) (sym told.between)
      ∙ ap (λ (j : ℕ). events_in room (steps_between n k acts r) + events_in room (steps_after_round n k acts j)) (sym more)
      ∙ (events_shared room).next n k r acts)
      (ap (λ steps. deliveries steps + deliveries (steps_after_round n k acts (suc r))) (sym told.between)
      ∙ ap (λ (j : ℕ). deliveries (steps_between n k acts r) + deliveries (steps_after_round n k acts j)) (sym more)
      ∙ deliveries_shared.next n k r acts)
      stood.log_room stood.clock
      (subst (λ (next : Option Round). HasGone acts (Some (round_of it.one)) next (get_or blocks b x) (get_or posts b y)
      (get_or bs b x) (get_or ps b y)) (round_is (suc r) one is)
      (subst (λ (before : Option Round). HasGone acts before (slice_get rs (suc r)) (get_or blocks b x)
      (get_or posts b y) (get_or bs b x) (get_or ps b y)) (round_is r (Some it.one) it.is)
      (gone.each b x y (omega (arith, l, at.block_count)))))

  -- the giver is one of the blocks
  giver_below : (round : Kind) (b : ℕ) → k ≤ n → CanBeOver n k round → b < 2 ^ k → giver_of_kind n k round b < 2 ^ k
  giver_below kind.North b fits over l = mod-lt (b + 1) (pow_pos k)
  giver_below kind.South b fits over l = mod-lt (b + 2 ^ k - 1) (pow_pos k)
  giver_below (kind.Dim d) b fits over l = xor_lt k b (2 ^ (d - (n - k))) l
      (pow_below (d - (n - k)) k (let f = over.from in let g = over.below in omega (arith, f, g, fits)))

  can_be_over : (one : Act) (round : Kind) → IsExchangeBy n k one round → CanBeOver n k round
  can_be_over one kind.North is = tt
  can_be_over one kind.South is = tt
  can_be_over one (kind.Dim d) is = is

  -- the round at which turn t ends may be one
  pub round_can : (t : ℕ) (round : Round) → slice_get rs t ≡ Some round → CanBeOver n k round.kind
  round_can t round is = can_be_over round.act round.kind (following_next n k t acts round is).exchange

  -- from the beginning of a turn to that of the next
  pub stand_next : (t : ℕ) (round : Round) (blocks bs : List BlockView) (posts ps came : List Post) → t < length rs
      → slice_get rs t ≡ Some round
      → StandAt n k room machine acts t blocks posts
      → AreEach (HasGone acts (round_before rs t) (slice_get rs t)) blocks posts bs ps
      → AreHandedOver n k round.kind ps came → StandAt n k room machine acts (suc t) bs came
  stand_next t round blocks bs posts ps came below is at gone over =
      let it = there (rounds n k acts) t (omega (arith, below, as_many)) in
      let same : Some (round_of it.one) ≡ Some round = sym (round_is t (Some it.one) it.is) ∙ is in
      let same_round : round_of it.one ≡ round = cc in
      let round_kind : round.kind ≡ kind_of it.one.step = ap (λ (x : Round). x.kind) (sym same_round) in
      let fits : k ≤ n = omega (arith, within) in
      let from : (b : ℕ) → b < 2 ^ k → giver_of_kind n k (kind_of it.one.step) b < 2 ^ k =
      λ b l. subst (λ (x : Kind). giver_of_kind n k x b < 2 ^ k) round_kind
      (giver_below round.kind b fits (round_can t round is) l) in
      let sent = sent_each t (Some it.one) blocks bs posts ps (omega (arith, below)) it.is at gone in record {
        block_count = gone.first_len ∙ at.block_count;
        post_count = over.len ∙ gone.second_len ∙ at.post_count;
        each = λ b x y l.
            stands_next n k room t b machine acts it.one (get_or bs b x) (get_or bs b x) (get_or came b y)
            (get_or ps b y) it.is (sent b x y l)
            (over.each b y l ∙ ap (λ (g : Kind). get_or ps (giver_of_kind n k g b) y) round_kind
            ∙ (sent (giver_of_kind n k (kind_of it.one.step) b) x y (from b l)).sends);
      }

  -- after the last turn
  pub stand_after : (blocks bs : List BlockView) (posts ps : List Post)
      → StandAt n k room machine acts (length rs) blocks posts
      → AreEach (HasGone acts (round_before rs (length rs)) (slice_get rs (length rs))) blocks posts bs ps
      → AreAfter n k room machine acts bs
  stand_after blocks bs posts ps at gone =
      let is : slice_get (rounds n k acts) (length rs) ≡ None =
      slice_get_past (rounds n k acts) (length rs) (omega (arith, as_many)) in
      let sent = sent_each (length rs) None blocks bs posts ps (omega arith) is at gone in record {
        count = gone.first_len ∙ at.block_count;
        each = λ b x l. (sent b x (blank_post n k) l).part
            ∙ ap (λ (r : ℕ). block n k b (before_round n room k machine acts r)) as_many;
      }

-- an element that is read is there
pub read_there : {X : Type 0} (xs : List X) (i : ℕ) (d : X) → i < length xs → slice_get xs i ≡ Some (get_or xs i d)
read_there xs i d below = let it = there xs i below in it.is ∙ ap Some (sym (get_or_from_slice_get xs i it.one d it.is))

-- a turn, where the rounds are those of the run
pub turn_over : (n k room t : ℕ) (machine : Machine) (acts : List Act) (rounds_now : List Round) (d : Round)
    (blocks bs : List BlockView) (posts ps came : List Post)
    → k ≤ n - n / 2 → rounds_now ≡ rounds_of n k acts → t < length rounds_now
    → StandAt n k room machine acts t blocks posts
    → AreEach (HasGone acts (round_before rounds_now t) (slice_get rounds_now t)) blocks posts bs ps
    → AreHandedOver n k (get_or rounds_now t d).kind ps came → StandAt n k room machine acts (t + 1) bs came
turn_over n k room t machine acts rounds_now d blocks bs posts ps came within is below at gone over =
    let read : slice_get (rounds_of n k acts) t ≡ Some (get_or rounds_now t d) =
    subst (λ (rs_it : List Round). slice_get rs_it t ≡ Some (get_or rounds_now t d)) is
    (read_there rounds_now t d below) in
    subst (λ (j : ℕ). StandAt n k room machine acts j bs came) (let more : suc t ≡ t + 1 = omega arith in more)
    (stand_next n k room machine acts within t (get_or rounds_now t d) blocks bs posts ps came
    (subst (λ (rs_it : List Round). t < length rs_it) is below) read at
    (subst (λ (rs_it : List Round). AreEach (HasGone acts (round_before rs_it t) (slice_get rs_it t))
    blocks posts bs ps) is gone) over)

pub round_over : (n k room t : ℕ) (machine : Machine) (acts : List Act) (rounds_now : List Round) (d : Round)
    → k ≤ n - n / 2
    → rounds_now ≡ rounds_of n k acts → t < length rounds_now → CanBeOver n k (get_or rounds_now t d).kind
round_over n k room t machine acts rounds_now d within is below =
    round_can n k room machine acts within t (get_or rounds_now t d)
    (subst (λ (rs_it : List Round). slice_get rs_it t ≡ Some (get_or rounds_now t d)) is
    (read_there rounds_now t d below))

-- the last turn
pub last_over : (n k room : ℕ) (machine : Machine) (acts : List Act) (rounds_now : List Round)
    (blocks bs : List BlockView) (posts ps : List Post)
    → k ≤ n - n / 2 → rounds_now ≡ rounds_of n k acts → StandAt n k room machine acts (length rounds_now) blocks posts
    → AreEach (HasGone acts (round_before rounds_now (length rounds_now)) (slice_get rounds_now (length rounds_now)))
    blocks posts bs ps
    → AreAfter n k room machine acts bs
last_over n k room machine acts rounds_now blocks bs posts ps within is at gone =
    stand_after n k room machine acts within blocks bs posts ps
    (subst (λ (rs_it : List Round). StandAt n k room machine acts (length rs_it) blocks posts) is at)
    (subst (λ (rs_it : List Round). AreEach
    (HasGone acts (round_before rs_it (length rs_it)) (slice_get rs_it (length rs_it))) blocks posts bs ps) is gone)

pub can_over : (n k t : ℕ) (acts : List Act) (rounds_now : List Round) (blocks : List BlockView) (posts : List Post)
    → k ≤ n - n / 2
    → rounds_now ≡ rounds_of n k acts → t ≤ length rounds_now → HaveBegun n k acts t blocks posts
    → CanAllGo acts (round_before rounds_now t) (slice_get rounds_now t) blocks posts
can_over n k t acts rounds_now blocks posts within is below begun =
    subst (λ (rs_it : List Round). CanAllGo acts (round_before rs_it t) (slice_get rs_it t) blocks posts) (sym is)
    (all_can n k begun.room begun.machine acts within t blocks posts
    (subst (λ (rs_it : List Round). t ≤ length rs_it) is below) begun.at)
