use Rattle.std.proofs.Common.{◌≡◌, ◌∙◌, ◌/◌, ◌%◌, Bool, true, false, None, sym, ap, if◌then◌else◌}
use Rattle.cm_model.specs.Processor.{SEND, flag}
use Rattle.cm_model.specs.Chip.{processor_at}
use Rattle.cm_model.specs.Array.{chip_at}
use Rattle.lab_load.specs.Asking.{next_offer}
use Rattle.lab_load.proofs.asking.offer_asked.Goals as goal

pub returns-then-flag-clause-value : goal.returns-then-flag-clause-value
returns-then-flag-clause-value c =
    let is : flag (processor_at (chip_at c.args.run.now (c.args.place / 16)) (c.args.place % 16)) SEND ≡ true =
    sym (sym c.if-flag.true ∙ c.flag.ensures.value
    ∙ (λ i. flag (processor_at (chip_at c.args.run.now (c.chip_of.ensures.value i)) (c.proc_of.ensures.value i)) SEND)) in
    ap (λ (b : Bool). if b then None else next_offer c.args.load.now c.args.t c.args.place c.args.source) (sym is)

pub returns-clause-value : goal.returns-clause-value
returns-clause-value c =
    let is : flag (processor_at (chip_at c.args.run.now (c.args.place / 16)) (c.args.place % 16)) SEND ≡ false =
    sym (sym c.if-flag.false ∙ c.flag.ensures.value
    ∙ (λ i. flag (processor_at (chip_at c.args.run.now (c.chip_of.ensures.value i)) (c.proc_of.ensures.value i)) SEND)) in
    c.next_offer.ensures.value
    ∙ ap (λ (b : Bool). if b then None else next_offer c.args.load.now c.args.t c.args.place c.args.source) (sym is)
