use Rattle.std.proofs.Common.{◌≡◌, ◌^◌, ℕ, Bool, List, length, map, ap, ◌∙◌, arith}
use Rattle.std.proofs.lemmas.List.{length-map}
use Rattle.cm_bits.specs.Bit.{bit}
use Rattle.cm_model.proofs.Messages.{value-lt}
use Rattle.cm_element.proofs.Fields.{sixteen_planes}
use Rattle.cm_element.proofs.word.sixteen_bits_in.Goals as goal

pub returns-clause-value : goal.returns-clause-value
returns-clause-value c = λ processor at are.
    c.bits_in.ensures.value ∙ sixteen_planes processor c.args.planes.now c.args.proc at c.requires.sixteen are

pub returns-clause-below : goal.returns-clause-below
returns-clause-below c =
    let bits : List Bool = map (λ plane. bit plane c.args.proc) c.args.planes.now in
    let long : length bits ≡ 16 = length-map c.args.planes.now (λ plane. bit plane c.args.proc) ∙ c.requires.sixteen in
    let most : 2 ^ length bits ≡ 2 ^ 16 = ap (λ (n : ℕ). 2 ^ n) long in
    omega (arith, c.bits_in.ensures.value, value-lt bits, most)
