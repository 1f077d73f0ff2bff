use Rattle.std.proofs.Common.{find, sym, ap, ◌∙◌, Some, None}
use Rattle.cm_model.specs.Found.{same_tag}
use Rattle.lab_study.proofs.Sending.{sent}
use Rattle.lab_study.proofs.ways.Ways.of.Goals as goal

pub returns-in-Some : goal.returns-in-Some
returns-in-Some c = record {
  value = sym (sent c.args.self.now c.args.chip c.args.message.now (Some c.in-Some.trace)
      (c.in-Some.ensures.value
      ∙ ap (find (λ trace. same_tag trace.tag c.args.message.now.tag)) c.sent_by.ensures.value));
}

pub returns-in-None : goal.returns-in-None
returns-in-None c = record {
  value = c.set_out-in-None.ensures.value
      ∙ sym (sent c.args.self.now c.args.chip c.args.message.now None
      (c.in-None.ensures.value
      ∙ ap (find (λ trace. same_tag trace.tag c.args.message.now.tag)) c.sent_by.ensures.value));
}
