use Rattle.std.proofs.Common.{◌≡◌, List, ℕ, length, get_or, bit_and, bit_xor, ap, ◌∙◌, sym, arith}
use Rattle.std.proofs.lemmas.Simd.{length-zip2, get_or-zip2}
use lib.Lanes.{zip2}
use Rattle.cm_bits.specs.Bit.{bit, differ}
use Rattle.cm_model.proofs.Bits.{bit-bit_and, bit-bit_xor}
use Rattle.cm_truth.proofs.lanes.changed_lanes.Goals as goal

pub returns : goal.returns
returns g c =
    let both : List ℕ = zip2 bit_and c.args.choice c.args.difference in
    let long : length both ≡ g.row.L =
    length-zip2 bit_and c.args.choice c.args.difference (c.requires.choice ∙ sym c.requires.difference)
    ∙ c.requires.choice in
    record {
      count = length-zip2 bit_xor c.args.word both (c.requires.word ∙ sym long) ∙ c.requires.word;
      value = λ k h p.
          ap (λ (w : ℕ). bit w p)
          (get_or-zip2 bit_xor c.args.word both k 0 0 0 (omega (arith, c.requires.word)) (omega (arith, long))
          ∙ ap (bit_xor (get_or c.args.word k 0)) (get_or-zip2 bit_and c.args.choice c.args.difference k 0 0 0
          (omega (arith, c.requires.choice)) (omega (arith, c.requires.difference))))
          ∙ bit-bit_xor (get_or c.args.word k 0) (bit_and (get_or c.args.choice k 0) (get_or c.args.difference k 0)) p
          ∙ ap (differ (bit (get_or c.args.word k 0) p))
          (bit-bit_and (get_or c.args.choice k 0) (get_or c.args.difference k 0) p);
    }
