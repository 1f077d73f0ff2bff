use Rattle.std.proofs.Common.{rules, ◌≡◌, ◌++◌, List, ap, ◌∙◌}
use Rattle.std.specs.Option.{option_to_list}
use Rattle.cm_model.specs.declared.message.Message.{Message}
use Rattle.cm_model.specs.Wiring.{Way}
use Rattle.cm_model.specs.Buffers.{leaving_place, without, buffer_after_dimension}
use Rattle.cm_plain.proofs.buffer.PlainBuffer.after_dimension.Goals as goal

pub returns : goal.returns
unfolding buffer_after_dimension
returns c =
    let here = c.args.self.now in
    let way : Way = record { cut = c.args.way.cut; rule = c.args.way.rule } in
    let copy_is : c.in_ok-messages.messages.items ≡ here = search rules in
    record {
      value = c.in_ok-come.ensures.ok
          ∙ ap (λ (ms : List Message). ms ++ option_to_list c.args.coming) (c.leave.ensures.value
          ∙ ap (λ (ms : List Message). without ms (leaving_place way c.args.room c.args.dim ms)) copy_is);
    }
