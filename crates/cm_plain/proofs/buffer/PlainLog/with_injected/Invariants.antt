use Rattle.std.proofs.Common.{◌≡◌, ◌++◌, take, map}
use Rattle.cm_model.specs.declared.message.Event.TheVariants.{Injected}
use Rattle.cm_plain.proofs.buffer.PlainLog.with_injected.Given as goal

abbrev pub invariant-loop-message : goal.invariant-loop-message
invariant-loop-message l = l.events.items ≡ l.self ++ map Injected (take l.message-index l.sent)
