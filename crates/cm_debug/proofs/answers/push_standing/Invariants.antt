use Rattle.std.proofs.Common.{◌≡◌, ◌++◌, take}
use Rattle.std.specs.List.{flat_map}
use Rattle.cm_session.specs.Answer.{standing_line}
use Rattle.cm_debug.proofs.answers.push_standing.Given as goal

abbrev pub invariant-loop-message : goal.invariant-loop-message
invariant-loop-message l =
    l.text.items ≡ l.initial.text.items ++ flat_map standing_line (take l.message-index l.messages)
