-- Laws of blocks and rounds, each the contract of a function of its name. Ours.
use Rattle.std.specs.Prelude.{◌≡◌, ℕ, ◌+◌, ◌-◌, ◌*◌, ◌/◌, ◌^◌, ◌<◌, ◌≤◌, true, false, Some, List, length, slice_get}
use Rattle.std.specs.List.{flat_map, range_with_len}
use Rattle.cm_model.specs.declared.act.Act.{Act}
use Rattle.cm_model.specs.Steps.{Step, Cross, IsStep, Phase}
use Rattle.cm_model.specs.Machine.{Machine, run_of}
use Rattle.cm_model.specs.Buffers.{after_step}
use Rattle.cm_model.specs.Keeping.{HasRoom}
use Rattle.cm_model.specs.Wiring.{is_cut}
use Rattle.cm_blocks.specs.Rounds.{is_round, rounds, steps_between, steps_until, before_round}
use Rattle.cm_blocks.specs.Parts.{block, block_size, buffer_in}
use Rattle.cm_blocks.specs.Parcels.{Blank, due, sender}
use Rattle.cm_blocks.specs.Steps.{part_after, part_after_all, less, absorbed}

-- a block of a machine after a step is that block after the step, where the parcel due from its sender has come
abbrev pub BlocksStepAlone : Type 0
BlocksStepAlone = (n cap k b : ℕ) (machine : Machine) (step : Step) → k ≤ n - n / 2 → b < 2 ^ k → IsStep n step →
    block n k b (after_step n cap machine step)
    ≡ part_after n cap step (due n cap step (block n k (sender n k step b) machine)) (block n k b machine)

-- a step that is no round needs no parcel
abbrev pub LocalStepsNeedNoParcel : Type 0
LocalStepsNeedNoParcel = (n cap k b : ℕ) (machine : Machine) (step : Step) → k ≤ n - n / 2 → b < 2 ^ k → IsStep n step
    → is_round n k step ≡ false →
    block n k b (after_step n cap machine step) ≡ part_after n cap step Blank (block n k b machine)

-- before the first round a block goes through the steps until then alone
abbrev pub BlocksBegin : Type 0
BlocksBegin = (n cap k b : ℕ) (machine : Machine) (acts : List Act) → k ≤ n - n / 2 → b < 2 ^ k →
    block n k b (before_round n cap k machine acts 0)
    ≡ part_after_all n cap (steps_until n k acts 0) (block n k b machine)

-- at a round it takes in the parcel that is due from its sender, and goes through the steps until the next round alone
abbrev pub BlocksGoOn : Type 0
BlocksGoOn = (n cap k b r : ℕ) (machine : Machine) (acts : List Act) (phase : Phase) → k ≤ n - n / 2 → b < 2 ^ k
    → slice_get (rounds n k acts) r ≡ Some phase →
    block n k b (before_round n cap k machine acts (r + 1))
    ≡ part_after_all n cap (steps_between n k acts r)
    (part_after n cap phase.step
    (due n cap phase.step (block n k (sender n k phase.step b) (before_round n cap k machine acts r)))
    (block n k b (before_round n cap k machine acts r)))

-- after the last round the machine is that after the run
abbrev pub RoundsEndTheRun : Type 0
RoundsEndTheRun = (n cap k : ℕ) (machine : Machine) (acts : List Act) → length machine.buffers ≡ 2 ^ n →
    before_round n cap k machine acts (length (rounds n k acts)) ≡ run_of n cap machine acts

-- the blocks in order are the whole machine
pub record AreJoined (n k : ℕ) (machine : Machine) : Type 0 where
  pub chips : flat_map (λ b. (block n k b machine).chips) (range_with_len 0 (2 ^ k)) ≡ machine.chips
  pub buffers : flat_map (λ b. (block n k b machine).buffers) (range_with_len 0 (2 ^ k)) ≡ machine.buffers
  pub logs : flat_map (λ b. (block n k b machine).logs) (range_with_len 0 (2 ^ k)) ≡ machine.logs

-- the 2 ^ k blocks of a machine of 2 ^ n chips, one after another, have all of its chips, buffers and logs
abbrev pub BlocksAreTheWhole : Type 0
BlocksAreTheWhole = (n k : ℕ) (machine : Machine) → k ≤ n → length machine.chips ≡ 2 ^ n
    → length machine.buffers ≡ 2 ^ n → length machine.logs ≡ 2 ^ n → AreJoined n k machine

-- at a round, who leaves first and what comes then is the step
abbrev pub LeavingThenTakingIn : Type 0
LeavingThenTakingIn = (n cap k b : ℕ) (machine : Machine) (step : Step) → k ≤ n → b < 2 ^ k → IsStep n step
    → is_round n k step ≡ true →
    absorbed n cap step (due n cap step (block n k (sender n k step b) machine)) (less cap step (block n k b machine))
    ≡ part_after n cap step (due n cap step (block n k (sender n k step b) machine)) (block n k b machine)

-- once who leaves is gone, each chip has room for one message that comes, unless its wire is cut and none does
abbrev pub LeavingMakesRoom : Type 0
LeavingMakesRoom = (n cap k b d c : ℕ) (machine : Machine) → k ≤ n → b < 2 ^ k → 0 < cap → HasRoom n cap machine
    → b * block_size n k ≤ c → c < b * block_size n k + block_size n k → is_cut machine.routing c d ≡ false →
    length (buffer_in (less cap (Cross d) (block n k b machine)) c) < cap
