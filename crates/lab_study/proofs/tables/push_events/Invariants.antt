use Rattle.std.proofs.Common.{◌≡◌, ◌++◌, take}
use Rattle.std.specs.List.{flat_map}
use Rattle.lab_study.specs.Tables.{event_text}
use Rattle.lab_study.proofs.tables.push_events.Given as goal

-- the lines of so many events
abbrev pub invariant-loop-event : goal.invariant-loop-event
invariant-loop-event l = l.text.items ≡ l.initial.text.items
    ++ flat_map (event_text l.clock l.ways l.chip) (take l.event-index l.events)
