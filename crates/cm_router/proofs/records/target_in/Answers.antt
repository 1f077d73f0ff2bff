use Rattle.std.proofs.Common.{◌≡◌, ◌%◌, arith}
use Rattle.std.proofs.lemmas.Grind.{common_steps}
use Rattle.cm_model.specs.declared.letters.TheConstants.{SENT_PROC}
use Rattle.cm_model.specs.Processor.{field_value}
use Rattle.cm_model.specs.Chip.{processor_at}
use Rattle.cm_element.proofs.Fields.{field-low_four}
use Rattle.cm_router.proofs.records.target_in.Goals as goal

pub returns : goal.returns
returns c = record {
  value = λ chip are. let low : c.sixteen_in-target.result % 16 ≡ field_value (processor_at chip c.args.proc) SENT_PROC 4 =
      field-low_four (processor_at chip c.args.proc) SENT_PROC c.sixteen_in-target.result
      (c.sixteen_in-target.ensures.value chip are) in
      grind (arith, common_steps);
}
