use Rattle.std.proofs.Common.{◌≡◌, ◌≤◌, Ok, sym, ◌∙◌, arith}
use Rattle.std.specs.Int.{w8}
use Rattle.cm_image_format.specs.Reading.{number_at}
use Rattle.cm_image_format.specs.Image.{message_part}
use Rattle.cm_image_fields.proofs.Filling.{fill_on}
use Rattle.cm_image_load.proofs.Standing.{same_place}
use Rattle.cm_image_load.proofs.Coming.{passed_over, messages_stand}
use Rattle.cm_image_load.proofs.messages.are_messages.Goals as goal

pub loop-i-preserved : goal.loop-i-preserved
loop-i-preserved g c =
    let told : message_part g.S.Sizes.n c.args.clock c.loop-i.rest.now
    ≡ Ok (c.in-Ok-take_message.field-0-0, c.in-Ok-take_message.after.now) =
    cc (c.in-Ok-take_message.ensures.value) in
    sym (fill_on same_place (λ k. message_part g.S.Sizes.n c.args.clock) passed_over c.in-Ok.count c.loop-i.i 0 0
    c.loop-i.rest.now c.in-Ok-take_message.after.now c.in-Ok-take_message.field-0-0 (omega arith) told)
    ∙ c.loop-i.invariant

pub returns : goal.returns
returns g c =
    let counted : number_at w8 c.args.bytes.now ≡ Ok (c.in-Ok.count, c.in-Ok.rest.now) = cc (c.in-Ok.ensures.value) in
    let room : c.in-Ok.count ≤ g.S.Sizes.cap = omega (arith, c.if-count-room.false, c.requires.room) in
    record {
      value = λ _. messages_stand g.S.Sizes.n g.S.Sizes.cap c.args.clock c.in-Ok.count c.loop-i.i c.loop-i.rest.now
          c.in-Ok.rest.now c.args.bytes.now (omega arith) room counted c.loop-i.invariant;
    }
