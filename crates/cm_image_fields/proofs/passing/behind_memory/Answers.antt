use Rattle.std.proofs.Common.{◌≡◌, Ok, arith}
use Rattle.std.specs.Int.{w16}
use Rattle.cm_image_format.specs.Reading.{number_at}
use Rattle.cm_image_format.specs.Image.{listed_part}
use Rattle.cm_image_fields.proofs.Taking.{passing_on, passing_all}
use Rattle.cm_image_fields.proofs.passing.behind_memory.Goals as goal

pub loop-i-preserved : goal.loop-i-preserved
loop-i-preserved c =
    let told : listed_part c.loop-i.least c.loop-i.rest.now
    ≡ Ok (record { at = c.in-Ok-take_listed.at; plane = c.in-Ok-take_listed.field-0-1 }, c.in-Ok-take_listed.after.now) =
    cc (c.in-Ok-take_listed.ensures.value) in
    passing_on c.in-Ok.count c.loop-i.i c.loop-i.least
    (record { at = c.in-Ok-take_listed.at; plane = c.in-Ok-take_listed.field-0-1 })
    c.loop-i.rest.now c.in-Ok-take_listed.after.now c.in-Ok.rest.now (omega arith) c.loop-i.invariant told
    c.in-Ok-take_listed.ensures.len

pub returns : goal.returns
returns c =
    let counted : number_at w16 c.args.bytes.now ≡ Ok (c.in-Ok.count, c.in-Ok.rest.now) = cc (c.in-Ok.ensures.value) in
    record {
      value = passing_all c.in-Ok.count c.loop-i.i c.loop-i.least c.loop-i.rest.now c.in-Ok.rest.now c.args.bytes.now
          (omega arith) (omega arith) counted c.loop-i.invariant;
    }
