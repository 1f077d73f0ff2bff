use Rattle.std.proofs.Common.{◌≡◌, ◌++◌, take}
use Rattle.std.specs.List.{flat_map}
use Rattle.lab_study.specs.Traces.{trace_of}
use Rattle.lab_study.specs.Tables.{trace_line}
use Rattle.lab_study.proofs.tables.push_buffer.Given as goal

-- the lines of so many messages
abbrev pub invariant-loop-message : goal.invariant-loop-message
invariant-loop-message l = l.text.items ≡ l.initial.text.items
    ++ flat_map (λ m. trace_line l.chip m (trace_of l.ways l.chip m)) (take l.message-index l.messages)
