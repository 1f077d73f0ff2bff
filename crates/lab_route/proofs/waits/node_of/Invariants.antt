use Rattle.std.proofs.Common.{◌≡◌, take}
use Rattle.lab_route.proofs.waits.node_of.Given as goal

-- so many of the messages stand there
abbrev pub invariant-loop-message : goal.invariant-loop-message
invariant-loop-message l = record {
  room : l.node.room ≡ l.room;
  messages : l.node.messages ≡ take l.message-index l.messages;
}
