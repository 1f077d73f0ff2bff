-- A turn: what a block does from one exchange to the next. It takes in what came in the round before,
-- goes on by itself, and sends what is due in the next. Ours.
use Rattle.std.specs.Prelude.{◌≡◌, ℕ, zero, suc, ◌+◌, ◌<◌, ◌^◌, List, Option, Some, None, length, get_or, slice_get}
use Rattle.std.specs.Option.{ForSome}
use Rattle.cm_model.specs.declared.act.Act.{Act}
use Rattle.cm_blocks.specs.Counts.{deliveries, events_in}
use Rattle.cm_blocks.specs.Parts.{Part}
use Rattle.cm_blocks.specs.Parcels.{due}
use Rattle.cm_blocks.specs.Steps.{part_after_all, less, absorbed}
use Rattle.cm_router.specs.Logs.{HaveLogRoom, LoseAtMost}
use Rattle.cm_subcube.specs.declared.round.Round.{Round}
use Rattle.cm_subcube.specs.Blocks.{BlockView}
use Rattle.cm_subcube.specs.Rounds.{step_of}
use Rattle.cm_subcube.specs.Parcels.{HaveSpaceFor, HasRoomFor, IsExchange, IsOfKind}
use Rattle.cm_subcube.specs.Local.{local_after, IsRoundOf}
use Rattle.cm_gates.specs.Blocks.{IsSame}
use Rattle.cm_workers.specs.declared.post.Post.{Post}
use Rattle.cm_workers.specs.Posts.{lane_in, blank_post, post_of}

-- the round at which turn t begins: the first turn begins with the acts
abbrev pub round_before : List Round → ℕ → Option Round
round_before rounds zero = None
round_before rounds (suc r) = slice_get rounds r

-- a part after it took in what came in the round before, if there was one
abbrev pub part_taken_in : ℕ → ℕ → Option Round → Post → Part → Part
part_taken_in n room None post s = s
part_taken_in n room (Some round) post s = absorbed n room (step_of round) (lane_in round.kind post) s

-- a part after it took in what came, and then went through the steps until the next round
abbrev pub part_gone_on : ℕ → ℕ → ℕ → List Act → Option Round → Post → Part → Part
part_gone_on n k room acts before post s =
    part_after_all n room (local_after n k acts before) (part_taken_in n room before post s)

-- what is left of a part when it has sent what is due in a round, if there is one
abbrev pub left_in : ℕ → Option Round → Part → Part
left_in room None s = s
left_in room (Some round) s = less room (step_of round) s

-- what a part sends in a round: a blank post, if there is no round
abbrev pub sent_by : ℕ → ℕ → ℕ → Option Round → Part → Post
sent_by n k room None s = blank_post n k
sent_by n k room (Some round) s = post_of n k round.kind (due n room (step_of round) s)

-- what came for a block is of the round's kind, and there is room for it
pub record HasCome (n k room : ℕ) (round : Round) (s : Part) (post : Post) : Type 0 where
  pub kind : IsOfKind n k round.kind (lane_in round.kind post)
  pub space : HasRoomFor round.kind room s (lane_in round.kind post)
  pub other : post ≡ post_of n k round.kind (lane_in round.kind post)

-- what came for a block in the round at which a turn begins; at the first turn nothing came
abbrev pub HasComeBefore : ℕ → ℕ → ℕ → Option Round → Part → Post → Type 0
HasComeBefore n k room None s post = post ≡ blank_post n k
HasComeBefore n k room (Some round) s post = HasCome n k room round s post

-- a round is one of the run, if there is a round
abbrev pub IsFollowing : ℕ → ℕ → List Act → Option Round → Type 0
IsFollowing n k acts one = ForSome one (λ round. IsRoundOf n k acts round)

-- a block and its post are ready for a turn
pub record IsReadyForTurn (acts : List Act) (before next : Option Round) (block : BlockView) (post : Post) : Type 0 where
  pub behind : IsFollowing block.kept.dims block.k acts before
  pub ahead : IsFollowing block.kept.dims block.k acts next
  pub come : HasComeBefore block.kept.dims block.k block.kept.room before block.kept.part post
  pub log_room : HaveLogRoom (events_in block.kept.room (local_after block.kept.dims block.k acts before))
      block.kept.log_rooms
  pub clock : block.kept.part.clock + deliveries (local_after block.kept.dims block.k acts before) < 2 ^ 63

-- a block has taken in what came, and has gone on until the next round
pub record HasGoneOn (acts : List Act) (before : Option Round) (old : BlockView) (post : Post) (new : BlockView)
    (blank : Post) : Type 0 where
  pub same : IsSame old new
  pub part : new.kept.part ≡ part_gone_on old.kept.dims old.k old.kept.room acts before post old.kept.part
  pub sent : blank ≡ blank_post old.kept.dims old.k
  pub log_room : LoseAtMost (events_in old.kept.room (local_after old.kept.dims old.k acts before))
      old.kept.log_rooms new.kept.log_rooms

-- a block has room for what comes in a round, if there is a round
abbrev pub HaveSpaceIn : Option Round → BlockView → Type 0
HaveSpaceIn None block = Unit {0}
HaveSpaceIn (Some round) block = HaveSpaceFor round.kind block.kept.room block.kept.part

-- a block has sent what is due in a round, if there is a round
pub record HasSentDue (next : Option Round) (old : BlockView) (blank : Post) (new : BlockView) (post : Post) : Type 0 where
  pub same : IsSame old new
  pub part : new.kept.part ≡ left_in old.kept.room next old.kept.part
  pub sent : post ≡ sent_by old.kept.dims old.k old.kept.room next old.kept.part
  pub log_room : new.kept.log_rooms ≡ old.kept.log_rooms
  pub space : HaveSpaceIn next new

-- a block has had its turn
pub record HasGone (acts : List Act) (before next : Option Round) (old : BlockView) (came : Post) (new : BlockView)
    (sent : Post) : Type 0 where
  pub same : IsSame old new
  pub part : new.kept.part
      ≡ left_in old.kept.room next (part_gone_on old.kept.dims old.k old.kept.room acts before came old.kept.part)
  pub sends : sent
      ≡ sent_by old.kept.dims old.k old.kept.room next
      (part_gone_on old.kept.dims old.k old.kept.room acts before came old.kept.part)
  pub log_room : LoseAtMost (events_in old.kept.room (local_after old.kept.dims old.k acts before))
      old.kept.log_rooms new.kept.log_rooms
  pub space : HaveSpaceIn next new

-- all blocks of a worker and their posts are ready for a turn
pub record CanAllGo (acts : List Act) (before next : Option Round) (blocks : List BlockView)
    (posts : List Post) : Type 0 where
  pub len : length posts ≡ length blocks
  pub each : (i : ℕ) (b : BlockView) (p : Post) → i < length blocks
      → IsReadyForTurn acts before next (get_or blocks i b) (get_or posts i p)

-- blocks exchange in a round, if there is one
abbrev pub IsAhead : Option Round → BlockView → Type 0
IsAhead None block = Unit {0}
IsAhead (Some round) block = IsExchange block.kept.dims block.k round

-- a block and its post are ready to send
pub record IsReadyToSend (next : Option Round) (block : BlockView) (post : Post) : Type 0 where
  pub ahead : IsAhead next block
  pub blank : post ≡ blank_post block.kept.dims block.k

-- all blocks of a worker and their posts are ready to send
pub record CanAllSend (next : Option Round) (blocks : List BlockView) (posts : List Post) : Type 0 where
  pub len : length posts ≡ length blocks
  pub each : (i : ℕ) (b : BlockView) (p : Post) → i < length blocks
      → IsReadyToSend next (get_or blocks i b) (get_or posts i p)
