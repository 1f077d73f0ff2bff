use Rattle.std.proofs.Common.{◌<◌, ◌^◌, arith}
use Rattle.std.proofs.lemmas.Result.{err_from_is_err_and}
use Rattle.cm_image_load.proofs.Loading.{with_value, with_fault, chip_read, memory_wrong, messages_wrong}
use Rattle.cm_image_load.proofs.chips.take_listed_chip.Goals as goal

pub returns-in_err-rest-clause-refused : goal.returns-in_err-rest-clause-refused
returns-in_err-rest-clause-refused g c =
    let p = err_from_is_err_and c.from_residual.result c.from_residual.ensures.1 in
    rw (p.1, p.2) (λ whole flags. memory_wrong g.S.Sizes.n g.S.Sizes.cap c.args.clock whole c.args.bytes.now
    c.args.flags.now _ flags c.in_err-rest.ensures.refused)

pub returns-clause-ok : goal.returns-clause-ok
returns-clause-ok g c =
    let below : c.args.chip < 2 ^ g.S.Sizes.n = omega (arith, c.requires.chip, c.requires.cube) in
    with_value c.take_messages.result _ _
    (λ rest messages whole flags. chip_read g.S.Sizes.n g.S.Sizes.cap c.args.clock c.args.chip c.args.builder.now
    c.put_flags.new.builder c.take_memory.new.builder c.take_messages.new.builder whole
    c.args.bytes.now c.in_ok-rest.rest.now rest.now c.args.flags.now
    below c.requires.blank flags c.put_flags.ensures.value c.in_ok-rest.ensures.ok messages)
    c.take_messages.ensures.ok

pub returns-clause-refused : goal.returns-clause-refused
returns-clause-refused g c =
    with_fault c.take_messages.result _ _
    (λ fault wrong whole flags. messages_wrong g.S.Sizes.n g.S.Sizes.cap c.args.clock c.args.chip c.put_flags.new.builder
    c.take_memory.new.builder whole c.args.bytes.now c.in_ok-rest.rest.now
    c.args.flags.now fault flags c.in_ok-rest.ensures.ok wrong)
    c.take_messages.ensures.refused
