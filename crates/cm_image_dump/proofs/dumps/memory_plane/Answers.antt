use Rattle.std.proofs.Common.{◌≡◌, ℕ, ap, ◌∙◌}
use Rattle.cm_model.specs.Processor.{memory_bit}
use Rattle.cm_model.specs.Chip.{processor_at, plane_number}
use Rattle.cm_model.proofs.Values.{plane_number-is}
use Rattle.cm_image_dump.proofs.dumps.memory_plane.Goals as goal

pub returns : goal.returns
returns c =
    let number_is : c.unwrap-at.result ≡ c.args.address = rw c.unwrap-at.ensures at c.new.ensures.value in
    record {
      value = plane_number-is c.plane.result
          (λ p. memory_bit (processor_at c.args.chip.now p) c.unwrap-at.result) c.plane.type_inv c.plane.ensures.value
          ∙ ap (λ (n : ℕ). plane_number (λ p. memory_bit (processor_at c.args.chip.now p) n)) number_is;
    }
