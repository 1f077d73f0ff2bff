use Rattle.cm_model.specs.declared.letters.TheConstants.{SENT_PAYLOAD}
use Rattle.cm_model.specs.Chip.{processor_at}
use Rattle.cm_element.proofs.Fields.{field-sixteen_lower}
use Rattle.cm_router.proofs.records.payload_in.Goals as goal

pub returns : goal.returns
returns c = record {
  value = λ chip are. field-sixteen_lower (processor_at chip c.args.proc) SENT_PAYLOAD 16 c.sixteen_in-high.result
      c.sixteen_in-low.result (c.sixteen_in-high.ensures.value chip are) (c.sixteen_in-low.ensures.value chip are);
}
