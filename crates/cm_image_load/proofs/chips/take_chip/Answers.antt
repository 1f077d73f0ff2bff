use Rattle.std.proofs.Common.{◌≡◌, ◌+◌, ◌<◌, ◌^◌, ◌++◌, [], ◌∷◌, List, ℕ, Ok, Err, drop, fold, sym, ap, ◌∙◌, subst}
use Rattle.std.proofs.Common.{arith}
use Rattle.std.proofs.lemmas.List.{take_rest}
use Rattle.std.proofs.lemmas.Result.{err_from_is_err_and}
use Rattle.cm_model.specs.Array.{Chips}
use Rattle.cm_model.specs.Machine.{Machine}
use Rattle.cm_element.specs.Planes.{chip_of}
use Rattle.cm_image_format.specs.Reading.{made}
use Rattle.cm_image_format.specs.Image.{flags_part, messages_part, chip_part}
use Rattle.cm_image_format.specs.Whole.{planes_of}
use Rattle.cm_image_load.specs.Chips.{with_chip_image, with_message, IsBlankFrom}
use Rattle.cm_image_load.specs.WaitingChips.{with_waiting}
use Rattle.cm_image_load.proofs.Loading.{with_value, with_fault, flags_wrong, full_read, full_wrong}
use Rattle.cm_image_load.proofs.Blanks.{blank_chip_read}
use Rattle.cm_image_load.proofs.Waiting.{nothing_waits}
use Rattle.cm_image_load.proofs.chips.take_chip.Goals as goal

pub returns-in-Some-clause-ok : goal.returns-in-Some-clause-ok
returns-in-Some-clause-ok g c =
    let below : c.args.chip < 2 ^ g.S.Sizes.n = omega (arith, c.requires.chip, c.requires.cube) in
    let before : Machine = with_waiting c.args.chip c.args.builder.now c.args.waiting.now in
    let after : Machine = c.put.new.builder in
    let none : before ≡ with_waiting (c.args.chip + 1) after c.put.new.self =
    sym c.put.ensures.value
    ∙ (sym (nothing_waits (c.args.chip + 1) after)
    ∙ ap (λ (waiting : Chips). with_waiting (c.args.chip + 1) after waiting) (sym c.put.ensures.none)) in
    blank_chip_read g.S.Sizes.n g.S.Sizes.cap c.args.clock c.args.chip before c.args.bytes.now c.in-Some.rest.now below
    c.requires.blank c.in-Some.ensures.value
    ∙ ap (λ (m : Machine). Ok (m, c.in-Some.rest.now)) none

pub returns-in_err-flags-clause-refused : goal.returns-in_err-flags-clause-refused
returns-in_err-flags-clause-refused g c =
    let p = err_from_is_err_and c.from_residual.result c.from_residual.ensures.1 in
    rw (p.1, p.2) (flags_wrong g.S.Sizes.n g.S.Sizes.cap c.args.clock c.args.bytes.now _ c.in_err-flags.ensures.value)

pub returns-then-push-clause-ok : goal.returns-then-push-clause-ok
returns-then-push-clause-ok g c =
    let flags : flags_part c.args.bytes.now ≡ Ok (c.in_ok-flags.flags, c.in_ok-flags.rest.now) =
    cc (c.in_ok-flags.ensures.value) in
    let below : c.args.chip < 2 ^ g.S.Sizes.n = omega (arith, c.requires.chip, c.requires.cube) in
    let after : List ℕ = c.in_ok-flags.rest.now in
    let builder : Machine = c.make_room.new.builder in
    let whole : Machine = c.take_messages.new.builder in
    with_value c.take_messages.result _ _
    (λ rest messages.
    subst
    (λ (m : Machine). made (with_chip_image c.args.chip m) (chip_part g.S.Sizes.n g.S.Sizes.cap c.args.clock) c.args.bytes.now
    ≡ Ok (with_waiting (c.args.chip + 1) whole c.push.new.self, rest.now))
    c.make_room.ensures.value
    (full_read g.S.Sizes.n g.S.Sizes.cap c.args.clock c.args.chip builder whole c.make_room.new.self c.push.new.self
    c.args.bytes.now after (drop 16386 after) rest.now c.in_ok-flags.flags
    below c.make_room.ensures.waiting
    (subst (λ (m : Machine). IsBlankFrom g.S.Sizes.n c.args.chip m) (sym c.make_room.ensures.value) c.requires.blank)
    flags (c.push.ensures.full c.if-push.true)
    (subst (λ (xs : List ℕ). made (λ ms. fold (with_message c.args.chip) builder ms)
    (messages_part g.S.Sizes.n g.S.Sizes.cap c.args.clock) xs ≡ Ok (whole, rest.now)) (take_rest after 16386) messages)))
    c.take_messages.ensures.ok

pub returns-then-push-clause-refused : goal.returns-then-push-clause-refused
returns-then-push-clause-refused g c =
    let flags : flags_part c.args.bytes.now ≡ Ok (c.in_ok-flags.flags, c.in_ok-flags.rest.now) =
    cc (c.in_ok-flags.ensures.value) in
    let after : List ℕ = c.in_ok-flags.rest.now in
    with_fault c.take_messages.result _ _
    (λ fault wrong. full_wrong g.S.Sizes.n g.S.Sizes.cap c.args.clock
    (λ listed. c.make_room.new.self ++ chip_of (planes_of listed) c.in_ok-flags.flags ∷ []) c.push.new.self
    c.args.bytes.now after (drop 16386 after) c.in_ok-flags.flags fault flags (c.push.ensures.full c.if-push.true)
    (subst (λ (xs : List ℕ). messages_part g.S.Sizes.n g.S.Sizes.cap c.args.clock xs ≡ Err fault) (take_rest after 16386)
    wrong))
    c.take_messages.ensures.refused

pub returns-clause-ok : goal.returns-clause-ok
returns-clause-ok g c =
    let flags : flags_part c.args.bytes.now ≡ Ok (c.in_ok-flags.flags, c.in_ok-flags.rest.now) =
    cc (c.in_ok-flags.ensures.value) in
    let whole : Machine = c.take_listed_chip.new.builder in
    let before : c.put-2.new.builder ≡ with_waiting c.args.chip c.args.builder.now c.args.waiting.now =
    c.put-2.ensures.value
    ∙ ap (λ (waiting : Chips). with_waiting c.args.chip c.make_room.new.builder waiting)
    (c.push.ensures.other c.if-push.false)
    ∙ c.make_room.ensures.value in
    let none : whole ≡ with_waiting (c.args.chip + 1) whole c.put-2.new.self =
    sym (nothing_waits (c.args.chip + 1) whole)
    ∙ ap (λ (waiting : Chips). with_waiting (c.args.chip + 1) whole waiting) (sym c.put-2.ensures.none) in
    with_value c.take_listed_chip.result _ _
    (λ rest told.
    subst
    (λ (m : Machine). made (with_chip_image c.args.chip m) (chip_part g.S.Sizes.n g.S.Sizes.cap c.args.clock) c.args.bytes.now
    ≡ Ok (whole, rest.now)) before (told c.args.bytes.now flags)
    ∙ ap (λ (m : Machine). Ok (m, rest.now)) none)
    c.take_listed_chip.ensures.ok
