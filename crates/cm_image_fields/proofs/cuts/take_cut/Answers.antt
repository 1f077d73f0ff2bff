use Rattle.std.proofs.Common.{◌∙◌, arith}
use Rattle.std.proofs.lemmas.Bool.{ne_eqb}
use Rattle.std.proofs.lemmas.Nat.Bits.{shr_and_one}
use Rattle.std.specs.Int.{bit_at}
use Rattle.cm_image_fields.proofs.cuts.take_cut.Goals as goal

pub returns-clause-wire : goal.returns-clause-wire
returns-clause-wire g c = record {
  wire = record {
    dim = omega arith;
    chip = omega (arith, c.in_ok-chip.ensures.below);
    lower = ne_eqb (bit_at c.in_ok-chip.chip c.in_ok-dim.dim) 1
        (λ e. c.if-chip-dim-eq1.false (shr_and_one c.in_ok-chip.chip c.in_ok-dim.dim ∙ e));
  };
  dim = omega arith;
  chip = omega (arith, c.in_ok-chip.ensures.below, c.requires.cube);
}
