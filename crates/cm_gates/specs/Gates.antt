-- What a gate sees of the workers of a run: their own blocks, before they send. Ours.
use Rattle.std.specs.Prelude.{◌≡◌, ◌↔◌, ℕ, ◌+◌, ◌-◌, ◌*◌, ◌<◌, ◌^◌, min, List, length, get_or}
use Rattle.cm_model.specs.declared.act.Act.{Act}
use Rattle.cm_model.specs.Machine.{Machine}
use Rattle.cm_blocks.specs.Parts.{block}
use Rattle.cm_blocks.specs.Rounds.{rounds, before_round}
use Rattle.cm_subcube.specs.Blocks.{BlockView}

-- a worker of so many has that one of 2 ^ k blocks whose number is its own, and then every so many on
abbrev pub IsShareOf : ℕ → ℕ → ℕ → List BlockView → Type 0
IsShareOf k count w blocks = (q : ℕ) → (q < length blocks) ↔ (q * count + w < 2 ^ k)

-- the number of a round as a gate is told it: one that is too large as the largest
abbrev pub gate_round_number : ℕ → ℕ
gate_round_number number = min number (2 ^ 32 - 1)

-- which is its number, of each round that there is
abbrev pub RoundsAreToldByNumber : Type 0
RoundsAreToldByNumber = (number : ℕ) → number < 2 ^ 32 → gate_round_number number ≡ number

-- block b of 2 ^ k of a cube of n dimensions whose routers have this room, as it is before a round of a run
pub record IsBeforeRound (n k room : ℕ) (machine : Machine) (acts : List Act) (number b : ℕ) (kept : BlockView)
    : Type 0 where
  pub blocks : kept.k ≡ k
  pub dims : kept.kept.dims ≡ n
  pub room_is : kept.kept.room ≡ room
  pub part : kept.kept.part ≡ block n k b (before_round n room k machine acts number)

-- the blocks of worker w of so many, each as it is before a round of a run
pub record AreBeforeRound (n k room : ℕ) (machine : Machine) (acts : List Act) (number count w : ℕ)
    (blocks : List BlockView) : Type 0 where
  pub one_of : w < count
  pub share : IsShareOf k count w blocks
  pub each : (q : ℕ) (b : BlockView) → q < length blocks
      → IsBeforeRound n k room machine acts number (q * count + w) (get_or blocks q b)

-- a worker comes by before it sends in a round of some run, whose number is told
pub record ComesBy (w told : ℕ) (blocks : List BlockView) : Type 0 where
  pub n : ℕ
  pub k : ℕ
  pub room : ℕ
  pub machine : Machine
  pub acts : List Act
  pub count : ℕ
  pub number : ℕ
  pub there : number < length (rounds n k acts)
  pub told_is : told ≡ gate_round_number number
  pub at : AreBeforeRound n k room machine acts number count w blocks

-- who looks saw worker w of so many come by before a round of this run
pub record HasSeen (saw : ℕ → ℕ → List BlockView → Type 0) (n k room : ℕ) (machine : Machine) (acts : List Act)
    (number count w : ℕ) : Type 0 where
  pub blocks : List BlockView
  pub at : AreBeforeRound n k room machine acts number count w blocks
  pub seen : saw w (gate_round_number number) blocks
