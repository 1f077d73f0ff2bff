-- What a chip computes of an instruction before anything is stored. Hillis 1985.
use Rattle.std.specs.Prelude.{List}
use Rattle.cm_element.specs.declared.outputs.Outputs.{Outputs}
use Rattle.cm_model.specs.declared.act.Nano.{Nano}
use Rattle.cm_model.specs.Processor.{Processor}
use Rattle.cm_model.specs.Instruction.{memory_output, flag_output, holds as condition_holds}
use Rattle.cm_model.specs.Chip.{processor_at, IsPlane}

-- both outputs of every processor, and whether the condition holds there
pub record AreOutputs (nano : Nano) (chip : List Processor) (outputs : Outputs) : Type 0 where
  pub mem : IsPlane outputs.mem (λ p. memory_output nano (processor_at chip p))
  pub flag : IsPlane outputs.flag (λ p. flag_output nano (processor_at chip p))
  pub holds : IsPlane outputs.holds (λ p. condition_holds nano (processor_at chip p))
