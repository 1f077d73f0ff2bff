use Rattle.std.proofs.Common.{◌≡◌, ◌++◌, set, take}
use Rattle.cm_model.specs.Array.{nth_or_nil}
use Rattle.cm_array.proofs.part.arrive_all.Given as goal

abbrev pub invariant-loop-message : goal.invariant-loop-message
invariant-loop-message l =
    l.to.buffers ≡ set l.fn.to.buffers l.chip (nth_or_nil l.fn.to.buffers l.chip ++ take l.message-index l.messages)
