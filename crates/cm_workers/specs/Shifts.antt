-- A turn of all workers at once: what each worker's thread promises, and what their blocks become. Ours.
use Rattle.std.specs.Prelude.{◌≡◌, ℕ, ◌<◌, List, Option, length, slice_get, Vec}
use Rattle.std.specs.declared.alloc.Global.{Global}
use Rattle.cm_model.specs.declared.act.Act.{Act}
use Rattle.cm_subcube.specs.declared.round.Round.{Round}
use Rattle.cm_subcube.specs.Blocks.{BlockView}
use Rattle.cm_workers.specs.declared.post.Post.{Post}
use Rattle.cm_workers.specs.declared.shift.HasHad.{HasHad}
use Rattle.cm_gates.specs.Dealing.{hand}
use Rattle.cm_workers.specs.Each.{AreEach}
use Rattle.cm_workers.specs.Turns.{round_before, CanAllGo, HasGone}
use Rattle.cm_workers.specs.Gates.{IsWorkersTurn}

-- a promise of a turn of these blocks and posts
pub record IsPromised (acts : List Act) (rounds : List Round) (number : ℕ) (blocks : List BlockView) (posts : List Post)
    (promise : HasHad) : Type 0 where
  pub acts_are : promise.acts.now ≡ acts
  pub rounds_are : promise.rounds.now ≡ rounds
  pub number_is : promise.number ≡ number
  pub blocks_were : promise.was.value.blocks.items ≡ blocks
  pub posts_were : promise.was.value.posts.items ≡ posts

-- it is kept by these
abbrev pub IsPromiseKept : HasHad → List BlockView → List Post → Type 0
IsPromiseKept promise blocks posts =
    AreEach (HasGone promise.acts.now (round_before promise.rounds.now promise.number)
    (slice_get promise.rounds.now promise.number))
    promise.was.value.blocks.items promise.was.value.posts.items blocks posts

-- all hands are ready for a turn
pub record CanHandsGo (acts : List Act) (before next : Option Round) (blocks : List (Vec BlockView Global))
    (posts : List (Vec Post Global)) : Type 0 where
  pub len : length posts ≡ length blocks
  pub each : (w : ℕ) (e : Vec BlockView Global) (f : Vec Post Global) → w < length blocks
      → CanAllGo acts before next (hand blocks e w) (hand posts f w)

-- each hand is that of the worker of its number
abbrev pub AreWorkersTurns : List Act → Option Round → Option Round → ℕ → List (Vec BlockView Global)
    → List (Vec Post Global) → Type 0
AreWorkersTurns acts before next t blocks posts =
    (w : ℕ) (e : Vec BlockView Global) (f : Vec Post Global) → w < length blocks
    → IsWorkersTurn acts before next t w (hand blocks e w) (hand posts f w)

-- all hands have had it
pub record HandsHaveGone (acts : List Act) (before next : Option Round) (blocks : List (Vec BlockView Global))
    (posts : List (Vec Post Global)) (now : List (Vec BlockView Global)) (sent : List (Vec Post Global)) : Type 0 where
  pub first_len : length now ≡ length blocks
  pub second_len : length sent ≡ length posts
  pub each : (w : ℕ) (e : Vec BlockView Global) (f : Vec Post Global) → w < length blocks
      → AreEach (HasGone acts before next) (hand blocks e w) (hand posts f w) (hand now e w) (hand sent f w)
