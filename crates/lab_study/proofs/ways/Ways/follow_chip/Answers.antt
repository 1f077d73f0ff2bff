use Rattle.std.proofs.Common.{ap, ◌∙◌}
use Rattle.cm_model.specs.declared.message.Message.{Message}
use Rattle.lab_study.specs.Traces.{trace_of, trace_after}
use Rattle.lab_study.proofs.Sending.{one_followed}
use Rattle.lab_study.proofs.ways.Ways.follow_chip.Goals as goal

pub loop-message-preserved : goal.loop-message-preserved
loop-message-preserved c = λ n before first.
    let follow = λ (m : Message). trace_after (trace_of c.args.self.now c.args.chip m) m in
    let m = c.message-item.result in
    one_followed n before follow c.args.messages.now c.loop-message.message-index m c.loop-message.next
    c.push.new.self c.followed.result c.loop-message-test.true (c.loop-message.invariant n before first)
    c.in_ok-push.ensures.ok
    (c.followed.ensures.value ∙ ap (λ trace. trace_after trace m) c.of.ensures.value ∙ ap follow c.message-item.is)
