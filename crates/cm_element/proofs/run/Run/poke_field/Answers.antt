use Rattle.std.proofs.Common.{◌+◌, [], set, get_or, sym, ap, ◌∙◌, arith}
use Rattle.cm_model.specs.Chip.{with_memory_bit}
use Rattle.cm_element.specs.Wide.{with_memory_field}
use Rattle.cm_element.proofs.Replacing.{one_more_in_run}
use Rattle.cm_element.proofs.run.Run.poke_field.Goals as goal

pub loop-i-init : goal.loop-i-init
loop-i-init c =
    c.put_field-put.ensures.value
    ∙ ap (λ n. set c.args.self.now c.args.chip (with_memory_field (get_or c.args.self.now c.args.chip []) c.args.proc n
    c.put_field-put.result c.args.value)) (sym (c.from-at.ensures ∙ c.at.ensures.value))

pub loop-i-preserved : goal.loop-i-preserved
loop-i-preserved c =
    let i = c.loop-i.i in
    let at = c.from-at.result in
    c.put_bit.ensures.value
    ∙ ap (λ b. set c.loop-i.self c.args.chip
    (with_memory_bit (get_or c.loop-i.self c.args.chip []) c.args.proc (at + i) b)) c.bit_of.ensures.value
    ∙ one_more_in_run c.args.self.now c.args.chip c.args.proc at i c.args.value c.loop-i.self c.requires.chip
    c.loop-i.invariant c.put_bit.ensures.whole c.put_bit.ensures.proc (omega arith)
