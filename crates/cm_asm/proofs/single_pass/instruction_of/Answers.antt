use Rattle.cm_asm.proofs.SinglePass.{instruction_if}
use Rattle.cm_asm.proofs.single_pass.instruction_of.Goals as goal

pub returns : goal.returns
returns c =
    instruction_if c.args.line.now c.in_ok-rest.rest.now c.in_ok-sources.sources.rest.now
    c.in_ok-conditions.conditions.rest.now c.in_ok-mem_table.mem_table.rest.now c.in_ok-flag_table.flag_table.rest.now
    _ _ _ _ _ _ _ _ _ c.nano_of.result c.in_ok-rest.ensures c.in_ok-sources.ensures c.in_ok-conditions.ensures
    c.in_ok-mem_table.ensures c.in_ok-flag_table.ensures c.in_ok-dir.ensures.word c.in_ok-dir.ensures.value
    c.nano_of.ensures
