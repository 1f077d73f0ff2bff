use Rattle.std.proofs.Common.{◌≡◌, Ok}
use Rattle.cm_image_format.specs.Image.{flags_part}
use Rattle.cm_image_load.proofs.Coming.{chip_stands}
use Rattle.cm_image_load.proofs.chips.is_chip.Goals as goal

pub returns : goal.returns
returns g c =
    let flags : flags_part c.args.bytes.now ≡ Ok (c.in-Ok.field-0-0, c.in-Ok.rest.now) = cc (c.in-Ok.ensures.value) in
    let memory = c.in-Some.ensures.value in
    record {
      value = λ h. chip_stands g.S.Sizes.n g.S.Sizes.cap c.args.clock c.args.bytes.now c.in-Ok.rest.now
          c.in-Some.rest.now c.in-Ok.field-0-0 memory.0 flags memory.1 (c.are_messages.ensures.value h);
    }
