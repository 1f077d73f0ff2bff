-- Laws of the exchange, each the contract of a function of its name. Ours.
use Rattle.std.specs.Prelude.{◌≡◌, ℕ, ◌+◌, ◌*◌, ◌^◌, ◌<◌, ◌≤◌, ◌↔◌, true, Some, None, List, length, slice_get}
use Rattle.cm_exchange.specs.declared.step.Step.{Step}
use Rattle.cm_exchange.specs.Lanes.{Exchange, round_count, kind_at, kind_count, due_list, giver, receiver, uses}
use Rattle.cm_exchange.specs.Worlds.{World, stand_of, lane_of, IsFinished, held_by}
use Rattle.cm_exchange.specs.Steps.{block_of, stage_of, kind_now, uses_now, sender_of, is_moved, is_ready, is_possible}
use Rattle.cm_exchange.specs.Steps.{next_step, IsReached}

-- each round of an exchange is of one of its kinds
pub record HasItsKinds (exchange : Exchange) : Type 0 where
  pub kinds : (r : ℕ) → r < round_count exchange → kind_at exchange.kinds r < kind_count exchange.k

-- who gives to a block sends to it, and who gets from it is sent to
pub record ArePartners (k kind : ℕ) : Type 0 where
  pub gives : (b : ℕ) → b < 2 ^ k → giver k kind b < 2 ^ k
  pub gets : (b : ℕ) → b < 2 ^ k → receiver k kind b < 2 ^ k
  pub back : (b : ℕ) → b < 2 ^ k → receiver k kind (giver k kind b) ≡ b
  pub on : (b : ℕ) → b < 2 ^ k → giver k kind (receiver k kind b) ≡ b

-- in each kind of round every block has one giver and one receiver, and each of these two maps undoes the other
abbrev pub LanesHaveTwoEnds : Type 0
LanesHaveTwoEnds = (k kind : ℕ) → kind < kind_count k → ArePartners k kind

-- what is sent in a round stands in the list of its lane behind what was sent in rounds of its kind before
abbrev pub RoundsAreDueInOrder : Type 0
RoundsAreDueInOrder = (exchange : Exchange) (r b : ℕ) → r < round_count exchange →
    Some (exchange.sent r b) ≡ slice_get (due_list exchange (kind_at exchange.kinds r) b)
    (uses exchange.kinds (kind_at exchange.kinds r) r)

-- in every world that steps lead to, a lane that is full or that its receiver holds has in it what is due in this use,
-- and any other has nothing
abbrev pub LanesHoldWhatIsDue : Type 0
LanesHoldWhatIsDue = (exchange : Exchange) (steps : List Step) (world : World) (kind b : ℕ) → HasItsKinds exchange
    → IsReached exchange steps world → kind < kind_count exchange.k → b < 2 ^ exchange.k →
    (lane_of exchange.k world kind b).parcel
    ≡ held_by (due_list exchange kind b) (lane_of exchange.k world kind b).word

-- the word of the lane that a step moves
abbrev pub word_for : Exchange → World → Step → ℕ
word_for exchange world step =
    (lane_of exchange.k world (kind_now exchange (stand_of world (block_of step)))
    (sender_of exchange (stand_of world (block_of step)) step)).word

-- of a step whose block stands at its stage, the last two bits of that word tell whether the lane may be moved; and
-- where it can be taken, they are the stage
pub record AreTold (exchange : Exchange) (world : World) (step : Step) : Type 0 where
  pub ready : block_of step < 2 ^ exchange.k → (stand_of world (block_of step)).round < round_count exchange
      → (stand_of world (block_of step)).stage ≡ stage_of step
      → is_moved step (uses_now exchange (stand_of world (block_of step))) (word_for exchange world step)
      ≡ is_ready step (word_for exchange world step)
  pub stage : is_possible exchange world step ≡ true
      → word_for exchange world step ≡ 4 * uses_now exchange (stand_of world (block_of step)) + stage_of step

-- in every world that an exchange reaches, the word of a lane tells of each step what `AreTold` names
abbrev pub WordsTellSteps : Type 0
WordsTellSteps = (exchange : Exchange) (steps : List Step) (world : World) (step : Step) → HasItsKinds exchange
    → IsReached exchange steps world → AreTold exchange world step

-- the next step can be taken, and no block below has one
pub record IsNext (exchange : Exchange) (world : World) (step : Step) : Type 0 where
  pub possible : is_possible exchange world step ≡ true
  pub lowest : (other : Step) → is_possible exchange world other ≡ true → block_of step ≤ block_of other

-- a world that steps lead to is finished, or has a next step
abbrev pub WorldsAreNeverStuck : Type 0
WorldsAreNeverStuck = (exchange : Exchange) (steps : List Step) (world : World) → HasItsKinds exchange
    → IsReached exchange steps world →
    ((next_step exchange world ≡ None) ↔ IsFinished exchange world)
    × ((step : Step) → next_step exchange world ≡ Some step → IsNext exchange world step)

-- it is finished after four steps of each block in each round, whatever their order
abbrev pub StepsAreCounted : Type 0
StepsAreCounted = (exchange : Exchange) (steps : List Step) (world : World) → HasItsKinds exchange
    → IsReached exchange steps world →
    IsFinished exchange world ↔ (length steps ≡ 4 * round_count exchange * 2 ^ exchange.k)

-- no order has more
abbrev pub OrdersComeToAnEnd : Type 0
OrdersComeToAnEnd = (exchange : Exchange) (steps : List Step) (world : World) → HasItsKinds exchange
    → IsReached exchange steps world → length steps ≤ 4 * round_count exchange * 2 ^ exchange.k
