use Rattle.std.proofs.Common.{◌^◌, ℕ, ap, ◌∙◌, pow_pos, eqb, ◌/◌}
use Rattle.cm_macros.proofs.Lists.{shifted_out}
use Rattle.lab_source.proofs.fits.holds.Goals as goal

pub returns-else-len-eq64 : goal.returns-else-len-eq64
returns-else-len-eq64 c = record {
  value = ap (λ (n : ℕ). eqb (c.args.number / 2 ^ n) 0) c.len-len.ensures.value
      ∙ shifted_out c.args.number (2 ^ c.args.field.len) (pow_pos c.args.field.len);
}
