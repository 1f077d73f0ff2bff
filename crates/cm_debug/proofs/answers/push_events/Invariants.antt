use Rattle.std.proofs.Common.{◌≡◌, ◌++◌, take}
use Rattle.std.specs.List.{flat_map}
use Rattle.cm_session.specs.Answer.{event_line}
use Rattle.cm_debug.proofs.answers.push_events.Given as goal

abbrev pub invariant-loop-event : goal.invariant-loop-event
invariant-loop-event l =
    l.text.items ≡ l.initial.text.items ++ flat_map event_line (take l.event-index l.events)
