-- What a gate sees of a worker in a turn, and how the worker stands when the turn begins. Ours.
use Rattle.std.specs.Prelude.{◌≡◌, ℕ, ◌+◌, ◌-◌, ◌*◌, ◌/◌, ◌<◌, ◌≤◌, List, Option, IfSome, length, get_or}
use Rattle.std.specs.Prelude.{slice_get}
use Rattle.cm_model.specs.declared.act.Act.{Act}
use Rattle.cm_model.specs.Machine.{Machine}
use Rattle.cm_subcube.specs.declared.round.Round.{Round}
use Rattle.cm_subcube.specs.Blocks.{BlockView}
use Rattle.cm_subcube.specs.Rounds.{rounds_of}
use Rattle.cm_gates.specs.Blocks.{AreShown}
use Rattle.cm_gates.specs.Gates.{IsShareOf, gate_round_number}
use Rattle.cm_workers.specs.declared.post.Post.{Post}
use Rattle.cm_workers.specs.Each.{AreEach}
use Rattle.cm_workers.specs.Runs.{StandsAt}
use Rattle.cm_workers.specs.Turns.{round_before, HasGoneOn}

-- who looks saw a worker's blocks in a turn of a run when they had gone on
pub record HasShown (saw : ℕ → ℕ → List BlockView → Type 0) (acts : List Act) (before : Option Round) (t w : ℕ)
    (blocks : List BlockView) (posts : List Post) : Type 0 where
  pub gone : List BlockView
  pub blanks : List Post
  pub went : AreEach (HasGoneOn acts before) blocks posts gone blanks
  pub shown : List BlockView
  pub same : AreShown gone shown
  pub seen : saw w (gate_round_number t) shown

-- so it is of a turn that ends at a round
abbrev pub ShowsIn : (ℕ → ℕ → List BlockView → Type 0) → List Act → Option Round → Option Round → ℕ → ℕ
    → List BlockView → List Post → Type 0
ShowsIn saw acts before next t w blocks posts = IfSome next (λ _. HasShown saw acts before t w blocks posts)

-- one of so many workers, with its blocks and their posts, when turn t of a run begins
pub record StandsAsWorker (n k room : ℕ) (machine : Machine) (acts : List Act) (t count w : ℕ) (blocks : List BlockView)
    (posts : List Post) : Type 0 where
  pub one_of : w < count
  pub share : IsShareOf k count w blocks
  pub each : (q : ℕ) (b : BlockView) (p : Post) → q < length blocks
      → StandsAt n k room machine acts t (q * count + w) (get_or blocks q b) (get_or posts q p)

-- so it is in some run, of which the turn's rounds are
pub record IsWorkersTurn (acts : List Act) (before next : Option Round) (t w : ℕ) (blocks : List BlockView)
    (posts : List Post) : Type 0 where
  pub n : ℕ
  pub k : ℕ
  pub room : ℕ
  pub machine : Machine
  pub count : ℕ
  pub within : k ≤ n - n / 2
  pub below : t ≤ length (rounds_of n k acts)
  pub before_is : before ≡ round_before (rounds_of n k acts) t
  pub next_is : next ≡ slice_get (rounds_of n k acts) t
  pub at : StandsAsWorker n k room machine acts t count w blocks posts
