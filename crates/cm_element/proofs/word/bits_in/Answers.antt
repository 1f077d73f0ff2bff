use Rattle.std.proofs.Common.{◌≡◌, ℕ, List, map, take, ap, ◌∙◌, arith}
use Rattle.std.proofs.lemmas.List.{take_all}
use Rattle.std.proofs.lemmas.Nat.{one_shl}
use Rattle.cm_bits.specs.Bit.{bit}
use Rattle.cm_model.specs.Processor.{value}
use Rattle.cm_element.proofs.Lanes.{bits_found}
use Rattle.cm_element.proofs.word.bits_in.Goals as goal

pub returns-clause-value : goal.returns-clause-value
returns-clause-value c =
    let planes : List ℕ = c.args.planes.now in
    let all : take 16 planes ≡ planes = take_all 16 planes (omega (arith, c.requires.sixteen)) in
    bits_found c.get.result _ (take 16 planes) (rw all c.requires.sixteen)
    (one_shl c.get.result 16 c.get.ensures.in_range)
    ∙ ap (λ ps. value (map (λ plane. bit plane c.get.result) ps)) all
    ∙ ap (λ (p : ℕ). value (map (λ plane. bit plane p) planes)) c.get.ensures.value
