use Rattle.std.proofs.Common.{◌≡◌, ◌+◌, ◌<◌, ◌^◌, ◌++◌, [], ◌∷◌, List, ℕ, Ok, drop, fold, length, sym, ap, ◌∙◌}
use Rattle.std.proofs.Common.{subst, arith}
use Rattle.std.proofs.lemmas.List.{take_rest, length_push}
use Rattle.cm_model.specs.Machine.{Machine}
use Rattle.cm_element.specs.Planes.{chip_of}
use Rattle.cm_image_format.specs.Reading.{made}
use Rattle.cm_image_format.specs.Image.{flags_part, memory_part, messages_part, chip_part}
use Rattle.cm_image_format.specs.Whole.{planes_of}
use Rattle.cm_image_load.specs.Chips.{with_chip_image, with_message, IsBlankFrom}
use Rattle.cm_image_load.specs.WaitingChips.{with_waiting}
use Rattle.cm_image_load.proofs.Loading.{made_of, full_read}
use Rattle.cm_image_load.proofs.Going.{goes_on-made, chip_goes_on, last_bytes}
use Rattle.cm_image_load.proofs.chips.take_full_chip.Goals as goal

pub returns-clause-full : goal.returns-clause-full
returns-clause-full g c =
    let flags : flags_part c.args.bytes.now ≡ Ok (c.in-Ok.read.0, c.in-Ok.read.1.now) =
    cc (c.in-Ok.ensures.value) in
    let below : c.args.chip < 2 ^ g.S.Sizes.n = omega (arith, c.requires.chip, c.requires.cube) in
    let after : List ℕ = c.in-Ok.read.1.now in
    let builder : Machine = c.make_room.new.builder in
    let whole : Machine = c.take_messages.new.builder in
    let rest : List ℕ = c.in-Ok-take_messages.after.now in
    let before : Machine = with_waiting c.args.chip c.args.builder.now c.args.waiting.now in
    let is : made (with_chip_image c.args.chip before) (chip_part g.S.Sizes.n g.S.Sizes.cap c.args.clock) c.args.bytes.now
    ≡ Ok (with_waiting (c.args.chip + 1) whole c.push.new.self, rest) =
    subst
    (λ (m : Machine). made (with_chip_image c.args.chip m) (chip_part g.S.Sizes.n g.S.Sizes.cap c.args.clock) c.args.bytes.now
    ≡ Ok (with_waiting (c.args.chip + 1) whole c.push.new.self, rest))
    c.make_room.ensures.value
    (full_read g.S.Sizes.n g.S.Sizes.cap c.args.clock c.args.chip builder whole c.make_room.new.self c.push.new.self
    c.args.bytes.now after (drop 16386 after) rest c.in-Ok.read.0
    below c.make_room.ensures.waiting
    (subst (λ (m : Machine). IsBlankFrom g.S.Sizes.n c.args.chip m) (sym c.make_room.ensures.value) c.requires.blank)
    flags (c.push.ensures.full c.if-not-push.false)
    (subst (λ (xs : List ℕ). made (λ ms. fold (with_message c.args.chip) builder ms)
    (messages_part g.S.Sizes.n g.S.Sizes.cap c.args.clock) xs ≡ Ok (whole, rest)) (take_rest after 16386)
    c.in-Ok-take_messages.ensures.ok)) in
    let last = last_bytes (made (with_chip_image c.args.chip before) (chip_part g.S.Sizes.n g.S.Sizes.cap c.args.clock))
    c.args.bytes.now rest (with_waiting (c.args.chip + 1) whole c.push.new.self)
    (goes_on-made (with_chip_image c.args.chip before) (chip_part g.S.Sizes.n g.S.Sizes.cap c.args.clock)
    (chip_goes_on g.S.Sizes.n g.S.Sizes.cap c.args.clock)) is in
    record {
      within = last.0;
      is = is ∙ ap (λ (xs : List ℕ). Ok (with_waiting (c.args.chip + 1) whole c.push.new.self, xs)) last.1;
    }

pub returns-clause-waiting : goal.returns-clause-waiting
returns-clause-waiting g c =
    let read = made_of (λ listed. c.make_room.new.self ++ chip_of (planes_of listed) c.in-Ok.read.0 ∷ []) memory_part
    c.in-Ok.read.1.now (drop 16386 c.in-Ok.read.1.now) c.push.new.self (c.push.ensures.full c.if-not-push.false) in
    omega (
      arith,
      c.make_room.ensures.waiting,
      ap length read.2,
      length_push c.make_room.new.self (chip_of (planes_of read.0) c.in-Ok.read.0),
    )
