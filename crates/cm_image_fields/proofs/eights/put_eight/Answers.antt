use Rattle.std.proofs.Common.{◌+◌, ◌-◌, ◌++◌, ℕ, List, take, refl, ap, ◌∙◌, arith}
use Rattle.cm_image_fields.proofs.Turning.{behind, rest_stays, eight_turned, high_first}
use Rattle.cm_image_fields.proofs.eights.put_eight.Goals as goal

pub returns : goal.returns
returns c =
    let i : ℕ = c.args.i in
    let bytes : List ℕ = c.args.bytes.now in
    record {
      value = behind i (i + 16 - i) bytes (high_first c.args.numbers) (omega arith) c.requires.within refl
          ∙ ap (λ (l : List ℕ). take i bytes ++ l) (eight_turned c.args.numbers c.fits-numbers.0 c.fits-numbers.1);
      rest = rest_stays i (i + 16 - i) bytes (high_first c.args.numbers) (omega arith) c.requires.within refl;
    }
