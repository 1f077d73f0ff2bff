use Rattle.std.proofs.Common.{◌≡◌, ◌==◌, false, length, refl, sym, ap, ◌∙◌}
use Rattle.std.proofs.lemmas.Bool.{ne_eqb}
use Rattle.cm_image_fields.proofs.Lengths.{length-listed_cuts}
use Rattle.cm_image_fields.proofs.cuts.cuts_len.Goals as goal

pub returns-else-version-eq1-clause-value : goal.returns-else-version-eq1-clause-value
returns-else-version-eq1-clause-value c =
    let other : (c.args.version == 1) ≡ false = ne_eqb c.args.version 1 c.if-version-eq1.false in
    sym (ap length (rw other refl) ∙ length-listed_cuts c.args.cuts.now)
