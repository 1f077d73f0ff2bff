use Rattle.std.proofs.Common.{◌+◌, ◌*◌, get_or, arith}
use Rattle.cm_model.specs.Processor.{memory_bit}
use Rattle.cm_model.specs.Array.{chip_at}
use Rattle.cm_model.specs.Chip.{processor_at}
use Rattle.cm_model.proofs.Values.{plane_number-is}
use Rattle.cm_image_dump.proofs.dense.write_tile.Goals as goal

pub returns : goal.returns
returns g c = record {
  value = λ k a h l. plane_number-is (get_or c.write_planes.new.memory (k * 4128 + a) 0)
      (λ p. memory_bit (processor_at (chip_at c.args.machine.now.machine.chips (c.args.first + k)) p) a)
      (omega (arith, c.type_inv.planes (k * 4128 + a))) (c.write_planes.ensures.value k a h l);
}
