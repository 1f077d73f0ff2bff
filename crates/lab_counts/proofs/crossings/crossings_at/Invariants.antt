use Rattle.std.proofs.Common.{◌≡◌, take}
use Rattle.lab_counts.proofs.crossings.crossings_at.Given as goal

-- so many stand in the node
abbrev pub invariant-loop-message : goal.invariant-loop-message
invariant-loop-message l = l.node ≡ record { room = l.room; messages = take l.message-index l.here }
