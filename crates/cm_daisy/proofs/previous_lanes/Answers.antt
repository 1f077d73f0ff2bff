use Rattle.std.proofs.Common.{ℕ, ◌+◌, ◌%◌, ◌*◌, ◌≡◌, length, get_or, refl, ap, ◌∙◌, arith}
use Rattle.std.proofs.lemmas.Simd.{length-zip2, get_or-zip2}
use Rattle.cm_bits.specs.Bit.{bit}
use Rattle.cm_daisy.proofs.Shifting.{bit-shifted}
use Rattle.cm_daisy.proofs.previous_lanes.Goals as goal

pub returns-clause-count : goal.returns-clause-count
returns-clause-count g c =
    length-zip2 (λ x y. (x + y) % 65536) c.args.planes c.args.planes refl ∙ c.requires.planes

pub returns-clause-value : goal.returns-clause-value
returns-clause-value g c = λ k h p below.
    let lane : ℕ = get_or c.args.planes k 0 in
    let inside = c.requires.planes in
    let twice : lane + lane ≡ lane * 2 = omega arith in
    ap (λ (w : ℕ). bit w p)
    (get_or-zip2 (λ x y. (x + y) % 65536) c.args.planes c.args.planes k 0 0 0 (omega (arith, h, inside))
    (omega (arith, h, inside))
    ∙ ap (λ (n : ℕ). n % 65536) twice)
    ∙ bit-shifted lane p below
