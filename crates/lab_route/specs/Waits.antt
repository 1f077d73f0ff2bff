-- Why a message stays at its chip in a petit cycle: step by step of the cycle, from the machine before the step. Ours.
use Rattle.std.specs.Prelude.{ℕ, ◌&&◌, Bool, Option, Some, None, List, ◌∷◌, ◌++◌, map, if◌then◌else◌}
use Rattle.std.specs.List.{find, flat_map, range_with_len}
use Rattle.std.specs.Option.{option_to_list}
use Rattle.cm_model.specs.declared.message.Message.{Message}
use Rattle.cm_model.specs.declared.message.Tag.{Tag}
use Rattle.cm_model.specs.Array.{chip_at, nth_or_nil}
use Rattle.cm_model.specs.Wiring.{is_cut}
use Rattle.cm_model.specs.Router.{has_to_cross}
use Rattle.cm_model.specs.Letters.{can_receive, has_arrived, is_for}
use Rattle.cm_model.specs.Steps.{Inject, Cross}
use Rattle.cm_model.specs.Machine.{Machine}
use Rattle.cm_model.specs.Buffers.{sent_across, after_steps}
use Rattle.cm_model.specs.Found.{same_tag}
use Rattle.lab_route.specs.declared.waits.Wait.{Wait}
use Rattle.lab_route.specs.declared.waits.Wait.TheVariants.{Cut, Behind, Unfetched, Second}
use Rattle.lab_route.specs.declared.whereabouts.Stand.{Stand}
use Rattle.lab_route.specs.Whereabouts.{stand_in}

-- in a petit cycle, after injection and so many first dimensions
abbrev pub machine_in_cycle : ℕ → ℕ → Machine → ℕ → Machine
machine_in_cycle n cap machine d = after_steps n cap machine (Inject ∷ map Cross (range_with_len 0 d))

-- ---- a dimension

-- its chip sends this message, or none, across dimension d: another goes first
abbrev pub wait_behind : ℕ → Tag → Option Message → Option Wait
wait_behind d tag None = None
wait_behind d tag (Some first) = if same_tag first.tag tag then None else Some (Behind d first.tag)

-- why it does not cross dimension d, where it stands there before that step: its wire is cut, or another message of its
-- chip goes first; or it has not to, or does
abbrev pub wait_at : ℕ → ℕ → Tag → Machine → Option Stand → Option Wait
wait_at cap d tag machine None = None
wait_at cap d tag machine (Some stand) =
    if has_to_cross d stand.message
    then (if is_cut machine.routing stand.chip d then Some (Cut d)
    else wait_behind d tag (sent_across machine.routing cap d machine.buffers stand.chip))
    else None

-- the same of the message of a tag
abbrev pub crossing_wait : ℕ → ℕ → ℕ → Tag → Machine → Option Wait
crossing_wait n cap d tag machine = wait_at cap d tag machine (stand_in n tag machine)

-- ---- delivery

-- it has arrived for the same processor
abbrev pub has_arrived_for : ℕ → Message → Bool
has_arrived_for p m = has_arrived m && is_for p m

-- of the messages that have arrived for its processor this one stands first
abbrev pub wait_second : Tag → Option Message → Option Wait
wait_second tag None = None
wait_second tag (Some first) = if same_tag first.tag tag then None else Some (Second first.tag)

-- why it is not delivered, where it stands there before delivery: its processor has not fetched what it received before,
-- or another message for that processor stands before it; or it has not arrived, or is delivered
abbrev pub wait_for : Tag → Machine → Option Stand → Option Wait
wait_for tag machine None = None
wait_for tag machine (Some stand) =
    if has_arrived stand.message
    then (if can_receive (chip_at machine.chips stand.chip) stand.message.proc
    then wait_second tag (find (has_arrived_for stand.message.proc) (nth_or_nil machine.buffers stand.chip))
    else Some Unfetched)
    else None

-- the same of the message of a tag
abbrev pub delivery_wait : ℕ → Tag → Machine → Option Wait
delivery_wait n tag machine = wait_for tag machine (stand_in n tag machine)

-- ---- a petit cycle

-- of its dimensions so many first ones
abbrev pub crossing_waits : ℕ → ℕ → Tag → Machine → ℕ → List Wait
crossing_waits n cap tag machine count =
    flat_map (λ d. option_to_list (crossing_wait n cap d tag (machine_in_cycle n cap machine d)))
    (range_with_len 0 count)

-- of all its steps
unfoldable pub waits_in : ℕ → ℕ → Tag → Machine → List Wait
waits_in n cap tag machine =
    crossing_waits n cap tag machine n
    ++ option_to_list (delivery_wait n tag (machine_in_cycle n cap machine n))
