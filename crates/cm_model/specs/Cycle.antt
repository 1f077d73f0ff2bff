-- A machine while it runs, with the set of its standing messages, and the steps of a petit cycle: Hillis 1985;
-- their limits are ours.
use Rattle.std.specs.Prelude.{ℕ, ◌+◌, ◌^◌, ◌&&◌, Bool, not, List, [], ◌∷◌, ◌++◌, length, map}
use Rattle.std.specs.List.{filter, flat_map, list_any, range_with_len}
use Rattle.cm_model.specs.declared.message.Message.{Message}
use Rattle.cm_model.specs.declared.message.Event.{Event}
use Rattle.cm_model.specs.declared.message.Event.TheVariants.{Injected, Delivered}
use Rattle.cm_model.specs.Array.{Chips, each_chip, nth_or_nil, chip_at, after_nano}
use Rattle.cm_model.specs.Wiring.{Routing}
use Rattle.cm_model.specs.Router.{Standing, is_at, is_before, standing_at, after_dimension}
use Rattle.cm_model.specs.Order.{in_order, messages_of}
use Rattle.cm_model.specs.Letters.{senders_taken, message_sent, messages_sent, chip_after_injection, can_receive}
use Rattle.cm_model.specs.Letters.{has_arrived, is_for, chip_after_delivery}
use Rattle.cm_model.specs.Steps.{Step, Instruct, Look, Inject, Cross, Deliver}

-- a machine while it runs: its messages are a set of records
pub record State : Type 0 where
  -- by number
  pub chips : Chips
  -- the set of records, in any order
  pub standing : List Standing
  -- by chip, its events since the machine was made
  pub logs : List (List Event)
  -- the counter of petit cycles
  pub clock : ℕ
  -- the petit cycle since it was handed over, from 1 on
  pub cycle : ℕ
  -- how its messages go
  pub routing : Routing

-- ---- injection

-- the processors of a chip whose messages are taken
abbrev pub taken_at : ℕ → State → ℕ → List ℕ
taken_at cap state c = senders_taken cap (length (standing_at c state.standing)) (chip_at state.chips c)

-- the record that a taken processor adds
abbrev pub new_record : ℕ → State → ℕ → ℕ → Standing
new_record n state c p = record {
  message = message_sent n state.clock c (chip_at state.chips c) p;
  chip = c;
  since = record { cycle = state.cycle; turn = p };
}

-- the records that injection adds on a chip
abbrev pub new_records : ℕ → ℕ → State → ℕ → List Standing
new_records n cap state c = map (new_record n state c) (taken_at cap state c)

-- injection on all chips at once
unfoldable pub after_injection : ℕ → ℕ → State → State
after_injection n cap state = record state {
  chips = each_chip n (λ c. chip_after_injection (taken_at cap state c) (chip_at state.chips c));
  standing = state.standing ++ flat_map (new_records n cap state) (range_with_len 0 (2 ^ n));
  logs = each_chip n (λ c. nth_or_nil state.logs c ++ map Injected
      (messages_sent n state.clock c (chip_at state.chips c) (taken_at cap state c)));
}

-- ---- delivery

-- another record at the same chip has arrived for the same processor, with a lesser since
abbrev pub is_rival : Standing → Standing → Bool
is_rival r q = is_at r.chip q
    && (has_arrived q.message && (is_for r.message.proc q.message && is_before q.since r.since))

-- it has arrived, its processor can receive, and no rival has come before it
abbrev pub is_delivered : Chips → List Standing → Standing → Bool
is_delivered chips set r =
    has_arrived r.message && (can_receive (chip_at chips r.chip) r.message.proc && not (list_any (is_rival r) set))

-- what is delivered at a chip, in order of since
unfoldable pub delivered_at : Chips → List Standing → ℕ → List Message
delivered_at chips set c = messages_of (in_order (filter (is_delivered chips set) (standing_at c set)))

-- after delivery, which ends the petit cycle
unfoldable pub after_delivery : ℕ → State → State
after_delivery n state = record {
  chips = each_chip n (λ c. chip_after_delivery (delivered_at state.chips state.standing c) (chip_at state.chips c));
  standing = filter (λ r. not (is_delivered state.chips state.standing r)) state.standing;
  logs = each_chip n (λ c. nth_or_nil state.logs c
      ++ map (λ m. Delivered c m) (delivered_at state.chips state.standing c));
  clock = state.clock + 1;
  cycle = state.cycle + 1;
  routing = state.routing;
}

-- ---- all steps

-- the state after one step, on a cube of n dimensions whose routers have room for cap messages each
abbrev pub state_after : ℕ → ℕ → State → Step → State
state_after n cap state (Instruct nano) = record state { chips = after_nano n nano state.chips }
state_after n cap state Look = state
state_after n cap state Inject = after_injection n cap state
state_after n cap state (Cross d) =
    record state { standing = after_dimension state.routing cap d state.cycle state.standing }
state_after n cap state Deliver = after_delivery n state

-- the state after a list of steps
abbrev pub state_after_all : ℕ → ℕ → State → List Step → State
state_after_all n cap state [] = state
state_after_all n cap state (step ∷ steps) = state_after_all n cap (state_after n cap state step) steps
