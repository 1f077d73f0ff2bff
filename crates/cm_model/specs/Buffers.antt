-- The same steps told by the buffers alone, chip by chip: this is what a router's code keeps. Ours.
use Rattle.std.specs.Prelude.{ℕ, suc, ◌+◌, ◌-◌, ◌^◌, ◌==◌, ◌&&◌, Bool, true, false, not, List, [], ◌∷◌, ◌++◌}
use Rattle.std.specs.Prelude.{Option, Some, None, length, map, slice_get, bit_xor, if◌then◌else◌}
use Rattle.std.specs.List.{position, remove}
use Rattle.std.specs.Option.{option_or, option_map, option_to_list}
use Rattle.cm_model.specs.declared.act.Act.{Act}
use Rattle.cm_model.specs.declared.message.Message.{Message}
use Rattle.cm_model.specs.declared.message.Event.TheVariants.{Injected, Delivered}
use Rattle.cm_model.specs.Array.{each_chip, chip_at, after_nano, nth_or_nil}
use Rattle.cm_model.specs.declared.rule.Rule.{Rule}
use Rattle.cm_model.specs.declared.rule.Rule.TheVariants.{First, Oldest}
use Rattle.cm_model.specs.Wiring.{Routing, Way, way_of}
use Rattle.cm_model.specs.Router.{is_older, has_to_cross, message_across}
use Rattle.cm_model.specs.Letters.{has_arrived, chip_after_injection, chip_after_delivery}
use Rattle.cm_model.specs.OneChip.{taken_here, sent_here, delivered_here, kept_here}
use Rattle.cm_model.specs.Steps.{Step, Instruct, Look, Inject, Cross, Deliver, steps_of}
use Rattle.cm_model.specs.Machine.{Machine}

-- ---- injection

-- the processors of a chip whose messages are taken
abbrev pub taken_in : ℕ → Machine → ℕ → List ℕ
taken_in cap machine c = taken_here cap (nth_or_nil machine.buffers c) (chip_at machine.chips c)

-- the messages that are taken there
abbrev pub sent_in : ℕ → ℕ → Machine → ℕ → List Message
sent_in n cap machine c = sent_here n cap machine.clock c (nth_or_nil machine.buffers c) (chip_at machine.chips c)

-- all chips at once: the taken messages stand last in their buffers
unfoldable pub machine_after_injection : ℕ → ℕ → Machine → Machine
machine_after_injection n cap machine = record machine {
  chips = each_chip n (λ c. chip_after_injection (taken_in cap machine c) (chip_at machine.chips c));
  buffers = each_chip n (λ c. nth_or_nil machine.buffers c ++ sent_in n cap machine c);
  logs = each_chip n (λ c. nth_or_nil machine.logs c ++ map Injected (sent_in n cap machine c));
}

-- ---- a dimension

-- the element at a place, if a place is given
abbrev pub element_at : {X : Type 0} → List X → Option ℕ → Option X
element_at xs None = None
element_at xs (Some i) = slice_get xs i

-- the list without the element at a place, if a place is given
abbrev pub without : {X : Type 0} → List X → Option ℕ → List X
without xs None = xs
without xs (Some i) = remove xs i

-- the place one further behind, if a place is given
abbrev pub one_behind : Option ℕ → Option ℕ
one_behind None = None
one_behind (Some i) = Some (suc i)

-- perhaps a message, and it is older than this one
abbrev pub is_older_one : Option Message → Message → Bool
is_older_one None m = false
is_older_one (Some q) m = is_older q.tag m.tag

-- the place of the oldest message that has to cross dimension d; of two of one tag, of the first
abbrev pub oldest_place : ℕ → List Message → Option ℕ
oldest_place d [] = None
oldest_place d (m ∷ ms) =
    if has_to_cross d m && not (is_older_one (element_at ms (oldest_place d ms)) m) then Some 0
    else one_behind (oldest_place d ms)

-- nobody, or a message that is older than this one
abbrev pub is_older_or_none : Option Message → Message → Bool
is_older_or_none None m = true
is_older_or_none (Some q) m = is_older q.tag m.tag

-- the place of the youngest message; of two of one tag, of the last
abbrev pub youngest_place : List Message → Option ℕ
youngest_place [] = None
youngest_place (m ∷ ms) =
    if is_older_or_none (element_at ms (youngest_place ms)) m then Some 0 else one_behind (youngest_place ms)

-- the place of who goes first of those that have to cross dimension d
abbrev pub first_place : Rule → ℕ → List Message → Option ℕ
first_place First d here = position (has_to_cross d) here
first_place Oldest d here = oldest_place d here

-- the place of who goes last
abbrev pub last_place : Rule → List Message → Option ℕ
last_place First here = Some (length here - 1)
last_place Oldest here = youngest_place here

-- the place of who is referred: at a full buffer of who goes last, else nobody
abbrev pub referred_place : Rule → ℕ → List Message → Option ℕ
referred_place rule cap here = if length here == cap then last_place rule here else None

-- the place of whom a router chooses in dimension d: of those that have to cross it who goes first, else who is referred
abbrev pub chosen_place : Rule → ℕ → ℕ → List Message → Option ℕ
chosen_place rule cap d here = option_or (first_place rule d here) (referred_place rule cap here)

-- the place of who leaves a buffer in dimension d: over a wire that is cut nobody, else whom the router chooses
unfoldable pub leaving_place : Way → ℕ → ℕ → List Message → Option ℕ
leaving_place way cap d here = if way.cut then None else chosen_place way.rule cap d here

-- what a buffer sends across dimension d
abbrev pub outgoing : Way → ℕ → ℕ → List Message → Option Message
outgoing way cap d here = option_map (message_across d) (element_at here (leaving_place way cap d here))

-- a buffer after the dimension step: who leaves is gone, and what comes stands last
unfoldable pub buffer_after_dimension : Way → ℕ → ℕ → List Message → Option Message → List Message
buffer_after_dimension way cap d here coming = without here (leaving_place way cap d here) ++ option_to_list coming

-- of the buffers of all chips, what chip c sends across dimension d
abbrev pub sent_across : Routing → ℕ → ℕ → List (List Message) → ℕ → Option Message
sent_across routing cap d buffers c = outgoing (way_of routing c d) cap d (nth_or_nil buffers c)

-- all buffers at once, from the old ones
abbrev pub buffers_after_dimension : Routing → ℕ → ℕ → ℕ → List (List Message) → List (List Message)
buffers_after_dimension routing n cap d buffers = each_chip n
    (λ c. buffer_after_dimension (way_of routing c d) cap d (nth_or_nil buffers c)
    (sent_across routing cap d buffers (bit_xor c (2 ^ d))))

-- all chips of a machine at once
unfoldable pub machine_after_dimension : ℕ → ℕ → ℕ → Machine → Machine
machine_after_dimension n cap d machine = record machine {
  buffers = buffers_after_dimension machine.routing n cap d machine.buffers;
}

-- ---- delivery

-- what a chip delivers
abbrev pub delivered_in : Machine → ℕ → List Message
delivered_in machine c = delivered_here (nth_or_nil machine.buffers c) (chip_at machine.chips c)

-- all chips at once: what is delivered is gone, and the counter is one more
unfoldable pub machine_after_delivery : ℕ → Machine → Machine
machine_after_delivery n machine = record {
  chips = each_chip n (λ c. chip_after_delivery (delivered_in machine c) (chip_at machine.chips c));
  buffers = each_chip n (λ c. kept_here (nth_or_nil machine.buffers c) (chip_at machine.chips c));
  logs = each_chip n (λ c. nth_or_nil machine.logs c ++ map (λ m. Delivered c m) (delivered_in machine c));
  clock = machine.clock + 1;
  routing = machine.routing;
}

-- ---- all steps

-- the machine after one step
abbrev pub after_step : ℕ → ℕ → Machine → Step → Machine
after_step n cap machine (Instruct nano) = record machine { chips = after_nano n nano machine.chips }
after_step n cap machine Look = machine
after_step n cap machine Inject = machine_after_injection n cap machine
after_step n cap machine (Cross d) = machine_after_dimension n cap d machine
after_step n cap machine Deliver = machine_after_delivery n machine

-- the machine after a list of steps
abbrev pub after_steps : ℕ → ℕ → Machine → List Step → Machine
after_steps n cap machine [] = machine
after_steps n cap machine (step ∷ steps) = after_steps n cap (after_step n cap machine step) steps

-- the machine after one act
abbrev pub after_act : ℕ → ℕ → Machine → Act → Machine
after_act n cap machine act = after_steps n cap machine (steps_of n act)

-- the machine after a list of acts
abbrev pub after_acts : ℕ → ℕ → Machine → List Act → Machine
after_acts n cap machine [] = machine
after_acts n cap machine (act ∷ acts) = after_acts n cap (after_act n cap machine act) acts
