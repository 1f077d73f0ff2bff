use Rattle.std.proofs.Common.{◌≡◌, ℕ, ap, ◌∙◌}
use Rattle.cm_model.specs.Processor.{flag}
use Rattle.cm_model.specs.Chip.{processor_at, plane_number}
use Rattle.cm_model.proofs.Values.{plane_number-is}
use Rattle.cm_image_dump.proofs.dumps.flag_plane.Goals as goal

pub returns : goal.returns
returns c =
    let number_is : c.unwrap-number.result ≡ c.args.f = rw c.unwrap-number.ensures at c.new.ensures.value in
    record {
      value = plane_number-is c.flag_plane.result (λ p. flag (processor_at c.args.chip.now p) c.unwrap-number.result)
          c.flag_plane.type_inv c.flag_plane.ensures.value
          ∙ ap (λ (n : ℕ). plane_number (λ p. flag (processor_at c.args.chip.now p) n)) number_is;
    }
