use Rattle.std.proofs.Common.{◌≡◌, ◌++◌, map, take}
use Rattle.lab_study.specs.Holdings.{held}
use Rattle.lab_study.proofs.holdings.push_held.Given as goal

-- so many messages came in addition
abbrev pub invariant-loop-message : goal.invariant-loop-message
invariant-loop-message l =
    l.all.items ≡ l.initial.all.items ++ map (held l.chip) (take l.message-index l.messages)
