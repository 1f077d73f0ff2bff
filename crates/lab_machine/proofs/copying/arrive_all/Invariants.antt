use Rattle.std.proofs.Common.{◌≡◌, ◌++◌, set, take}
use Rattle.cm_model.specs.Array.{nth_or_nil}
use Rattle.lab_machine.proofs.copying.arrive_all.Given as goal

abbrev pub invariant-loop-message : goal.invariant-loop-message
invariant-loop-message l =
    l.engine.buffers ≡ set l.fn.engine.buffers l.chip (nth_or_nil l.fn.engine.buffers l.chip ++ take l.message-index l.messages)
