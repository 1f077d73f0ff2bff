use Rattle.std.proofs.Common.{◌≡◌, ◌++◌, take, map}
use Rattle.cm_model.specs.declared.message.Event.TheVariants.{Delivered}
use Rattle.cm_plain.proofs.buffer.PlainLog.with_delivered.Given as goal

abbrev pub invariant-loop-message : goal.invariant-loop-message
invariant-loop-message l = l.events.items ≡ l.self ++ map (λ m. Delivered l.chip m) (take l.message-index l.received)
