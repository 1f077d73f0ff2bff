use Rattle.std.proofs.Common.{◌≡◌, ◌≤◌, Ok, arith}
use Rattle.std.specs.Int.{w8}
use Rattle.cm_image_format.specs.Reading.{number_at}
use Rattle.cm_image_format.specs.Image.{message_part}
use Rattle.cm_image_load.proofs.Standing.{messages_on, messages_err, messages_all}
use Rattle.cm_image_load.proofs.messages.take_messages.Goals as goal

pub returns-in-Err-clause-refused : goal.returns-in-Err-clause-refused
returns-in-Err-clause-refused g c =
    let counted : number_at w8 c.args.bytes.now ≡ Ok (c.in_ok-count.count, c.in_ok-count.rest.now) =
    cc (c.in_ok-count.ensures.value) in
    let room : c.in_ok-count.count ≤ g.S.Sizes.cap = omega (arith, c.if-count-room.false, c.room.ensures.value) in
    messages_err g.S.Sizes.n g.S.Sizes.cap c.args.chip c.args.clock c.in_ok-count.count c.loop-i.i c.loop-i.builder
    c.args.builder.now c.loop-i.rest.now c.in_ok-count.rest.now c.args.bytes.now c.in-Err.fault
    (omega arith) room counted c.loop-i.invariant c.in-Err.ensures.value

pub loop-i-preserved : goal.loop-i-preserved
loop-i-preserved g c =
    let told : message_part g.S.Sizes.n c.args.clock c.loop-i.rest.now ≡ Ok (c.in-Ok.message, c.in-Ok.after.now) =
    cc (c.in-Ok.ensures.value) in
    messages_on g.S.Sizes.n c.args.chip c.args.clock c.in_ok-count.count c.loop-i.i c.in-Ok.message c.loop-i.builder
    c.message.new.self c.args.builder.now c.loop-i.rest.now c.in-Ok.after.now
    c.in_ok-count.rest.now (omega (arith, c.requires.chip, c.requires.cube)) (omega arith) c.loop-i.invariant told
    c.message.ensures.value

pub returns-clause-ok : goal.returns-clause-ok
returns-clause-ok g c =
    let counted : number_at w8 c.args.bytes.now ≡ Ok (c.in_ok-count.count, c.in_ok-count.rest.now) =
    cc (c.in_ok-count.ensures.value) in
    let room : c.in_ok-count.count ≤ g.S.Sizes.cap = omega (arith, c.if-count-room.false, c.room.ensures.value) in
    messages_all g.S.Sizes.n g.S.Sizes.cap c.args.chip c.args.clock c.in_ok-count.count c.loop-i.i c.loop-i.builder
    c.args.builder.now c.loop-i.rest.now c.in_ok-count.rest.now c.args.bytes.now (omega arith)
    room counted c.loop-i.invariant
