use Rattle.std.proofs.Common.{◌≡◌, ◌∙◌, ℕ, List, true, set}
use Rattle.cm_model.specs.declared.letters.TheConstants.{SENT_REL, SENT_PROC, SENT_PAYLOAD}
use Rattle.cm_model.specs.Processor.{Processor, SEND}
use Rattle.cm_model.specs.Chip.{with_flag}
use Rattle.cm_model.specs.Array.{Chips, chip_at}
use Rattle.cm_element.specs.Wide.{with_memory_field}
use Rattle.lab_load.proofs.Poking.{poked_again}
use Rattle.lab_load.proofs.asking.write_record.Goals as goal

pub returns : goal.returns
returns c =
    let old : Chips = c.args.run.now in
    let at : ℕ = c.args.chip in
    let p : ℕ = c.args.proc in
    let one : List Processor = with_memory_field (chip_at old at) p SENT_REL 16 c.args.rel in
    let two : List Processor = with_memory_field one p SENT_PROC 4 c.args.to in
    let three : List Processor = with_memory_field two p SENT_PAYLOAD 32 c.args.payload in
    let first : c.poke_field.new.self ≡ set old at one =
    c.poke_field.ensures.value
    ∙ (λ i. set old at (with_memory_field (chip_at old at) p (c.rel_field.ensures.at i) (c.rel_field.ensures.len i)
    c.args.rel)) in
    let second : c.poke_field-2.new.self ≡ set old at two =
    poked_again (λ (x : List Processor). with_memory_field x p SENT_PROC 4 c.args.to) old c.poke_field.new.self
    c.poke_field-2.new.self at one c.requires.chip first
    (c.poke_field-2.ensures.value
    ∙ (λ i. set c.poke_field.new.self at (with_memory_field (chip_at c.poke_field.new.self at) p
    (c.proc_field.ensures.at i) (c.proc_field.ensures.len i) c.args.to))) in
    let third : c.poke_field-3.new.self ≡ set old at three =
    poked_again (λ (x : List Processor). with_memory_field x p SENT_PAYLOAD 32 c.args.payload) old
    c.poke_field-2.new.self c.poke_field-3.new.self at two c.requires.chip second
    (c.poke_field-3.ensures.value
    ∙ (λ i. set c.poke_field-2.new.self at (with_memory_field (chip_at c.poke_field-2.new.self at) p
    (c.payload_field.ensures.at i) (c.payload_field.ensures.len i) c.args.payload))) in
    let flag = rw c.unwrap.ensures at c.poke_flag.ensures.ok in
    record {
      value = poked_again (λ (x : List Processor). with_flag x p SEND true) old c.poke_field-3.new.self
          c.poke_flag.new.self at three c.requires.chip third flag;
    }
