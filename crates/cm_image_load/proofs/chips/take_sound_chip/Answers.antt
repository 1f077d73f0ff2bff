use Rattle.std.proofs.Common.{◌≡◌, ◌+◌, ℕ, List, Ok, ap, ◌∙◌}
use Rattle.cm_model.specs.Machine.{Machine}
use Rattle.cm_image_format.specs.Reading.{made}
use Rattle.cm_image_format.specs.Image.{chip_part}
use Rattle.cm_image_load.specs.Chips.{with_chip_image}
use Rattle.cm_image_load.specs.WaitingChips.{with_waiting}
use Rattle.cm_image_load.proofs.Going.{goes_on-made, chip_goes_on, last_bytes}
use Rattle.cm_image_load.proofs.chips.take_sound_chip.Goals as goal

pub returns-clause-full : goal.returns-clause-full
returns-clause-full g c =
    let whole : Machine = with_waiting (c.args.chip + 1) c.take_chip.new.builder c.take_chip.new.waiting in
    let before : Machine = with_waiting c.args.chip c.args.builder.now c.args.waiting.now in
    let is : made (with_chip_image c.args.chip before) (chip_part g.S.Sizes.n g.S.Sizes.cap c.args.clock) c.args.bytes.now
    ≡ Ok (whole, c.in-Ok.after.now) =
    c.in-Ok.ensures.ok in
    let last = last_bytes (made (with_chip_image c.args.chip before) (chip_part g.S.Sizes.n g.S.Sizes.cap c.args.clock))
    c.args.bytes.now c.in-Ok.after.now whole
    (goes_on-made (with_chip_image c.args.chip before) (chip_part g.S.Sizes.n g.S.Sizes.cap c.args.clock)
    (chip_goes_on g.S.Sizes.n g.S.Sizes.cap c.args.clock)) is in
    record {
      within = last.0;
      is = is ∙ ap (λ (xs : List ℕ). Ok (whole, xs)) last.1;
    }
