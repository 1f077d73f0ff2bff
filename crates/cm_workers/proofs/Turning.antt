-- One turn of one block: what it needs, and what the block is afterwards.
use Rattle.std.proofs.Common.{◌≡◌, ℕ, ◌+◌, ◌<◌, ◌^◌, Bool, List, Option, None, Some, length, get_or, refl, ap, sym}
use Rattle.std.proofs.Common.{subst, ◌∙◌, arith}
use Rattle.cm_model.specs.declared.act.Act.{Act}
use Rattle.cm_model.specs.Steps.{Step, Instruct, Look, Inject, Cross, Deliver}
use Rattle.cm_blocks.specs.Counts.{deliveries, events_in}
use Rattle.cm_blocks.specs.Parts.{Part}
use Rattle.cm_blocks.specs.Parcels.{Parcel}
use Rattle.cm_blocks.specs.Steps.{absorbed, part_after}
use Rattle.cm_subcube.specs.declared.round.Round.{Round}
use Rattle.cm_subcube.specs.Blocks.{BlockView}
use Rattle.cm_router.specs.Logs.{HaveLogRoom, LoseAtMost}
use Rattle.cm_array.specs.Cuts.{PartView}
use Rattle.cm_subcube.specs.Parcels.{IsExchange}
use Rattle.cm_subcube.specs.Local.{local_after}
use Rattle.cm_workers.specs.declared.post.Post.{Post}
use Rattle.cm_workers.specs.Posts.{blank_post}
use Rattle.cm_workers.specs.Each.{AreEach}
use Rattle.cm_workers.specs.Turns.{part_gone_on, left_in, sent_by, IsReadyForTurn, CanAllGo, IsReadyToSend, CanAllSend}
use Rattle.cm_workers.specs.Turns.{HasGoneOn, HasSentDue}
use Rattle.cm_gates.specs.Blocks.{IsShown, AreShown}
use Rattle.cm_workers.specs.Turns.{HasGone, IsAhead, IsFollowing}

-- the counter stands still while a parcel is taken in
pub clock_stands : (n room : ℕ) (step : Step) (parcel : Parcel) (s : Part)
    → (absorbed n room step parcel s).clock ≡ s.clock
unfolding absorbed part_after
clock_stands n room (Instruct nano) parcel s = refl
clock_stands n room Look parcel s = refl
clock_stands n room Inject parcel s = refl
clock_stands n room (Cross d) parcel s = refl
clock_stands n room Deliver parcel s = refl

-- a block can go on by itself until the next round
pub record CanGoOn (acts : List Act) (before : Option Round) (block : BlockView) : Type 0 where
  pub following : IsFollowing block.kept.dims block.k acts before
  pub log_room : HaveLogRoom (events_in block.kept.room (local_after block.kept.dims block.k acts before))
      block.kept.log_rooms
  pub clock : block.kept.part.clock + deliveries (local_after block.kept.dims block.k acts before) < 2 ^ 63

pub can_go_on : (acts : List Act) (before next : Option Round) (block : BlockView) (post : Post)
    → IsReadyForTurn acts before next block post
    → CanGoOn acts before block
can_go_on acts before next block post ready =
    record { following = ready.behind; log_room = ready.log_room; clock = ready.clock }

-- so it can when it has taken in what came
pub still_can : (acts : List Act) (before : Option Round) (old new : BlockView) (step : Step)
    (parcel : Parcel) (gathered : Bool)
    → new.kept ≡ record old.kept {
      part = absorbed old.kept.dims old.kept.room step parcel old.kept.part;
      gathered = gathered;
    } → new.k ≡ old.k
    → CanGoOn acts before old → CanGoOn acts before new
still_can acts before old new step parcel gathered is blocks can =
    let taken : PartView = record old.kept {
      part = absorbed old.kept.dims old.kept.room step parcel old.kept.part;
      gathered = gathered;
    } in
    subst (λ (block : BlockView). CanGoOn acts before block) (let same : record { k = old.k; kept = taken } ≡ new =
    (λ i. record { k = sym blocks i; kept = sym is i }) in same)
    (record {
      following = can.following;
      log_room = can.log_room;
      clock = subst (λ (clock : ℕ). clock + deliveries (local_after old.kept.dims old.k acts before) < 2 ^ 63)
          (sym (clock_stands old.kept.dims old.kept.room step parcel old.kept.part)) can.clock;
    })

-- the round of a turn, as it is borrowed
pub exchange_of : (n k : ℕ) (acts : List Act) (before : Option Round) (round : Round) → before ≡ Some round
    → IsFollowing n k acts before → IsExchange n k round
exchange_of n k acts before round is following = (following round is).exchange

-- ---- the parts of a turn together

module _ (acts : List Act) (before next : Option Round) where
  -- a block that has gone on is ready to send
  pub ready_to_send : (b0 b1 b2 : BlockView) (p0 p1 : Post) → IsReadyForTurn acts before next b0 p0
      → HasGoneOn acts before b0 p0 b1 p1
      → IsShown b1 b2 → IsReadyToSend next b2 p1
  ready_to_send b0 b1 b2 p0 p1 can gone shown =
      let dims : b0.kept.dims ≡ b2.kept.dims = sym (ap (λ (kept : PartView). kept.dims) shown.kept ∙ gone.same.dims) in
      let blocks : b0.k ≡ b2.k = sym (shown.blocks ∙ gone.same.blocks) in record {
        ahead = is_ahead acts next b2 (subst (λ (d : ℕ). IsFollowing d b2.k acts next) dims
            (subst (λ (k : ℕ). IsFollowing b0.kept.dims k acts next) blocks can.ahead));
        blank = gone.sent ∙ ap (λ (d : ℕ). blank_post d b0.k) dims ∙ ap (λ (k : ℕ). blank_post b2.kept.dims k) blocks;
      }
    where
      is_ahead : (acts : List Act) (next : Option Round) (block : BlockView)
          → IsFollowing block.kept.dims block.k acts next → IsAhead next block
      is_ahead acts None block following = tt
      is_ahead acts (Some round) block following = (following round refl).exchange

  pub has_gone : (b0 b1 b2 b3 : BlockView) (p0 p1 p3 : Post) → HasGoneOn acts before b0 p0 b1 p1 → IsShown b1 b2
      → HasSentDue next b2 p1 b3 p3
      → HasGone acts before next b0 p0 b3 p3
  has_gone b0 b1 b2 b3 p0 p1 p3 gone shown sent =
      let n = b0.kept.dims in let k = b0.k in let room = b0.kept.room in
      let dims : b2.kept.dims ≡ n = ap (λ (kept : PartView). kept.dims) shown.kept ∙ gone.same.dims in
      let rooms : b2.kept.room ≡ room = ap (λ (kept : PartView). kept.room) shown.kept ∙ gone.same.room in
      let blocks : b2.k ≡ k = shown.blocks ∙ gone.same.blocks in
      let part : b2.kept.part ≡ part_gone_on n k room acts before p0 b0.kept.part =
      ap (λ (kept : PartView). kept.part) shown.kept ∙ gone.part in
      let log_rooms : b3.kept.log_rooms ≡ b1.kept.log_rooms = sent.log_room
      ∙ ap (λ (kept : PartView). kept.log_rooms) shown.kept in record {
        same =
            record { dims = sent.same.dims ∙ dims; room = sent.same.room ∙ rooms; blocks = sent.same.blocks ∙ blocks };
        part = sent.part ∙ ap (λ (r : ℕ). left_in r next b2.kept.part) rooms
            ∙ ap (λ (s : Part). left_in room next s) part;
        sends = sent.sent ∙ ap (λ (d : ℕ). sent_by d b2.k b2.kept.room next b2.kept.part) dims
            ∙ ap (λ (j : ℕ). sent_by n j b2.kept.room next b2.kept.part) blocks
            ∙ ap (λ (r : ℕ). sent_by n k r next b2.kept.part) rooms
            ∙ ap (λ (s : Part). sent_by n k room next s) part;
        log_room = subst (λ (rooms_now : List ℕ). LoseAtMost (events_in room (local_after n k acts before))
            b0.kept.log_rooms rooms_now) (sym log_rooms) gone.log_room;
        space = sent.space;
      }

  -- so of all blocks of a worker
  pub all_ready : (bs0 bs1 bs2 : List BlockView) (ps0 ps1 : List Post) → CanAllGo acts before next bs0 ps0
      → AreEach (HasGoneOn acts before) bs0 ps0 bs1 ps1 → AreShown bs1 bs2 → CanAllSend next bs2 ps1
  all_ready bs0 bs1 bs2 ps0 ps1 can gone shown = record {
    len = gone.second_len ∙ can.len ∙ sym gone.first_len ∙ sym shown.len;
    each = λ i b p l.
        let l1 : i < length bs1 = omega (arith, l, shown.len) in
        let l0 : i < length bs0 = omega (arith, l1, gone.first_len) in
        ready_to_send (get_or bs0 i b) (get_or bs1 i b) (get_or bs2 i b) (get_or ps0 i p)
        (get_or ps1 i p) (can.each i b p l0)
        (gone.each i b p l0) (shown.each i b l1);
  }

  pub all_gone : (bs0 bs1 bs2 bs3 : List BlockView) (ps0 ps1 ps3 : List Post)
      → AreEach (HasGoneOn acts before) bs0 ps0 bs1 ps1
      → AreShown bs1 bs2 → AreEach (HasSentDue next) bs2 ps1 bs3 ps3 → AreEach (HasGone acts before next) bs0 ps0 bs3 ps3
  all_gone bs0 bs1 bs2 bs3 ps0 ps1 ps3 gone shown sent = record {
    first_len = sent.first_len ∙ shown.len ∙ gone.first_len;
    second_len = sent.second_len ∙ gone.second_len;
    each = λ i b p l.
        let l1 : i < length bs1 = omega (arith, l, gone.first_len) in
        let l2 : i < length bs2 = omega (arith, l1, shown.len) in
        has_gone (get_or bs0 i b) (get_or bs1 i b) (get_or bs2 i b) (get_or bs3 i b) (get_or ps0 i p)
        (get_or ps1 i p) (get_or ps3 i p)
        (gone.each i b p l) (shown.each i b l1) (sent.each i b p l2);
  }

-- ---- a turn as it is told by its number

pub as_numbered : (acts : List Act) (before before_it next next_it : Option Round)
    (blocks bs bs_new now : List BlockView) (posts ps ps_new sent : List Post)
    → before ≡ before_it → next ≡ next_it → bs ≡ blocks → ps ≡ posts → now ≡ bs_new → sent ≡ ps_new
    → AreEach (HasGone acts before next) bs ps bs_new ps_new
    → AreEach (HasGone acts before_it next_it) blocks posts now sent
as_numbered acts before before_it next next_it blocks bs bs_new now posts ps ps_new sent b n bs_is
    ps_is now_is sent_is gone =
    subst (λ (one : Option Round). AreEach (HasGone acts one next_it) blocks posts now sent) b
    (subst (λ (one : Option Round). AreEach (HasGone acts before one) blocks posts now sent) n
    (subst (λ (xs : List BlockView). AreEach (HasGone acts before next) xs posts now sent) bs_is
    (subst (λ (xs : List Post). AreEach (HasGone acts before next) bs xs now sent) ps_is
    (subst (λ (xs : List BlockView). AreEach (HasGone acts before next) bs ps xs sent) (sym now_is)
    (subst (λ (xs : List Post). AreEach (HasGone acts before next) bs ps bs_new xs) (sym sent_is) gone)))))

pub ready_as_numbered : (acts : List Act) (before before_it next next_it : Option Round)
    (blocks bs : List BlockView) (posts ps : List Post)
    → before ≡ before_it → next ≡ next_it → bs ≡ blocks → ps ≡ posts → CanAllGo acts before_it next_it blocks posts
    → CanAllGo acts before next bs ps
ready_as_numbered acts before before_it next next_it blocks bs posts ps b n bs_is ps_is ready =
    subst (λ (one : Option Round). CanAllGo acts one next bs ps) (sym b)
    (subst (λ (one : Option Round). CanAllGo acts before_it one bs ps) (sym n)
    (subst (λ (xs : List BlockView). CanAllGo acts before_it next_it xs ps) (sym bs_is)
    (subst (λ (xs : List Post). CanAllGo acts before_it next_it blocks xs) (sym ps_is) ready)))
