-- What a run delivers, with laws, each the contract of a function of its name: Hillis 1985; what a log tells is ours.
use Rattle.std.specs.Prelude.{◌≡◌, ℕ, ◌+◌, ◌<◌, ◌≤◌, ◌^◌, ◌⊎◌, true, List, ◌++◌, length, map, slice_index_or}
use Rattle.std.specs.List.{Contains, flat_map, filter_map, count_by, range_with_len}
use Rattle.cm_model.specs.declared.act.Act.{Act}
use Rattle.cm_model.specs.declared.message.Message.{Message}
use Rattle.cm_model.specs.declared.message.Event.{Event}
use Rattle.cm_model.specs.declared.message.Event.TheVariants.{Injected, Delivered}
use Rattle.cm_model.specs.Array.{chip_at, nth_or_nil}
use Rattle.cm_model.specs.Letters.{can_receive}
use Rattle.cm_model.specs.Steps.{Deliver, all_steps}
use Rattle.cm_model.specs.Machine.{Machine, machine_at, run_of}
use Rattle.cm_model.specs.Buffers.{machine_after_delivery}
use Rattle.cm_model.specs.Found.{same_tag}
use Rattle.cm_model.specs.Account.{Triple, standing_triple, delivered_triple, account, new_events, newly_injected}
use Rattle.cm_model.specs.Account.{SameLines}
use Rattle.cm_model.specs.Keeping.{IsMachine}
use Rattle.cm_model.specs.RunLaws.{IsReceived}

-- ---- what stands and what was delivered

-- the lines of all messages that stand in the routers
unfoldable pub standing_lines : ℕ → Machine → List Triple
standing_lines n machine =
    flat_map (λ c. map (standing_triple c) (nth_or_nil machine.buffers c)) (range_with_len 0 (2 ^ n))

-- the lines of the messages delivered since an earlier machine
unfoldable pub newly_delivered : ℕ → Machine → Machine → List Triple
newly_delivered n before after =
    flat_map (λ c. filter_map delivered_triple (new_events before after c)) (range_with_len 0 (2 ^ n))

-- what stood in the routers and what was injected since stands there now or was delivered since: each line as often
abbrev pub StandOrWereDelivered : ℕ → Machine → Machine → Type 0
StandOrWereDelivered n before after =
    SameLines (standing_lines n before ++ newly_injected n before after)
    (standing_lines n after ++ newly_delivered n before after)

-- so it is at each step of a run, in the midst of a petit cycle too
abbrev pub MessagesStandOrWereDelivered : Type 0
MessagesStandOrWereDelivered = (n cap : ℕ) (machine : Machine) (acts : List Act) (count : ℕ) →
    StandOrWereDelivered n machine (machine_at n cap machine acts count)

-- ---- where the message of a line is

-- it stands in a router: a message with this tag and payload, bound for this place
pub record Stands (n : ℕ) (machine : Machine) (line : Triple) : Type 0 where
  pub chip : ℕ
  pub within : chip < 2 ^ n
  pub message : Message
  pub stands : Contains (nth_or_nil machine.buffers chip) message
  pub same : standing_triple chip message ≡ line

-- the line of a message that was delivered at a chip: its target is its processor there
abbrev pub line_delivered : ℕ → Message → Triple
line_delivered c m = record { tag = m.tag; target = record { chip = c; proc = m.proc }; payload = m.payload }

-- it was delivered: a message with this tag and payload, to this place
pub record WasDelivered (n : ℕ) (machine : Machine) (line : Triple) : Type 0 where
  pub chip : ℕ
  pub within : chip < 2 ^ n
  pub message : Message
  pub told : Contains (nth_or_nil machine.logs chip) (Delivered chip message)
  pub same : line_delivered chip message ≡ line

-- events of a chip tell that it was injected: a message with this tag and payload, bound for this place
pub record AreOfInjected (chip : ℕ) (events : List Event) (line : Triple) : Type 0 where
  pub message : Message
  pub told : Contains events (Injected message)
  pub same : standing_triple chip message ≡ line

-- it was injected at a chip since an earlier machine
pub record WasInjected (n : ℕ) (before after : Machine) (line : Triple) : Type 0 where
  pub chip : ℕ
  pub within : chip < 2 ^ n
  pub injected : AreOfInjected chip (new_events before after chip) line

-- the log of some chip tells that it was injected there
pub record IsInjected (n : ℕ) (machine : Machine) (line : Triple) : Type 0 where
  pub chip : ℕ
  pub within : chip < 2 ^ n
  pub injected : AreOfInjected chip (nth_or_nil machine.logs chip) line

-- it stands in a router or was delivered, and no other message with its tag does or was
pub record IsInOnePlace (n : ℕ) (machine : Machine) (line : Triple) : Type 0 where
  pub there : Stands n machine line ⊎ WasDelivered n machine line
  pub once : count_by (λ other. same_tag other.tag line.tag) (account n machine) ≡ 1

-- after a run each message that stood in a router before, or that a log tells was injected, stands in exactly one
-- router or was delivered once, unaltered, to the processor that it is for
abbrev pub MessagesAreInOnePlace : Type 0
MessagesAreInOnePlace = (n cap : ℕ) (machine : Machine) (acts : List Act) (line : Triple) → IsMachine n cap machine
    → Stands n machine line ⊎ IsInjected n (run_of n cap machine acts) line →
    IsInOnePlace n (run_of n cap machine acts) line

-- ---- what a log tells of a delivery

-- x stands at this place of a list
abbrev pub IsAt : {X : Type 0} → List X → ℕ → X → Type 0
IsAt xs i x = (i < length xs) × (slice_index_or xs i x ≡ x)

-- the moment of a delivery at chip c, from one machine to the next, which comes to be event i of the chip's log:
-- the message stood there and had arrived, its processor had RECV 0; then that processor has the payload
-- in its field and RECV 1
pub record IsMoment (n : ℕ) (before after : Machine) (c i : ℕ) (m : Message) : Type 0 where
  pub next : after ≡ machine_after_delivery n before
  pub receives : can_receive (chip_at before.chips c) m.proc ≡ true
  pub received : IsReceived before after c m
  pub untold : length (nth_or_nil before.logs c) ≤ i
  pub told : IsAt (nth_or_nil after.logs c) i (Delivered c m)

-- event i of chip c's log, which tells of a delivery of m at d in these acts: it was there, in the delivery of one of
-- their petit cycles; and the message stood in a router when the acts began, or was injected before this delivery
pub record IsDeliveryOf (n cap : ℕ) (first machine : Machine) (acts : List Act) (c i d : ℕ) (m : Message)
    : Type 0 where
  pub here : d ≡ c
  -- of the steps of the acts so many came before
  pub count : ℕ
  pub step : IsAt (all_steps n acts) count Deliver
  pub moment : IsMoment n (machine_at n cap machine acts count) (machine_at n cap machine acts (count + 1)) c i m
  pub origin : Stands n first (line_delivered c m)
      ⊎ WasInjected n first (machine_at n cap machine acts count) (line_delivered c m)

-- each delivery that the logs tell of since a run began
abbrev pub DeliveriesAreOfMessages : Type 0
DeliveriesAreOfMessages = (n cap : ℕ) (machine : Machine) (acts : List Act) (c i d : ℕ) (m : Message)
    → IsMachine n cap machine → c < 2 ^ n → length (nth_or_nil machine.logs c) ≤ i
    → IsAt (nth_or_nil (run_of n cap machine acts).logs c) i (Delivered d m) →
    IsDeliveryOf n cap machine machine acts c i d m
