use Rattle.std.proofs.Common.{◌≡◌, ◌++◌, map, take}
use Rattle.cm_array.specs.Tags.{tag_key}
use Rattle.cm_array.proofs.tags.push_keys.Given as goal

abbrev pub invariant-loop-message : goal.invariant-loop-message
invariant-loop-message l = l.keys.items ≡ l.initial.keys.items ++ map tag_key (take l.message-index l.messages)
