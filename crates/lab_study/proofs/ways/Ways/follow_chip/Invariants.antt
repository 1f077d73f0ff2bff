use Rattle.std.proofs.Common.{◌≡◌, ℕ, List, ◌++◌, map, take}
use Rattle.lab_study.specs.declared.trace.Trace.{Trace}
use Rattle.lab_study.specs.Traces.{trace_of, trace_after, by_sender}
use Rattle.lab_study.proofs.ways.Ways.follow_chip.Given as goal

-- so many messages came in addition
abbrev pub invariant-loop-message : goal.invariant-loop-message
invariant-loop-message l = (n : ℕ) (before : List Trace) → l.initial.next ≡ by_sender n before
    → l.next ≡ by_sender n (before ++ map (λ m. trace_after (trace_of l.self l.chip m) m) (take l.message-index l.messages))
