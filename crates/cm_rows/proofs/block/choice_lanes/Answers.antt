use Rattle.std.proofs.Common.{ℕ, get_or, bit_xor, arith, replicate}
use Rattle.std.proofs.lemmas.Simd.{get_or-replicate, get_or-zip2, length-replicate}
use Rattle.cm_rows.proofs.Words.{bit-all, bit-asked}
use Rattle.cm_rows.proofs.block.choice_lanes.Goals as goal
use Rattle.cm_rows.proofs.block.choice_lanes.Goals.{then-always, else-always}

pub returns-clause-value : goal.returns-clause-value
returns-clause-value g c = λ k h p below. elim c.if-always.branch [
  | then-always w ↦ rw (w.result-is, w.if-always.true, get_or-replicate {A = ℕ} g.row.L k 65535 0 h) (bit-all p below)
  | else-always w ↦ rw (
    w.result-is,
    get_or-zip2 bit_xor c.args.condition (replicate g.row.L w.turned.result) k 0 0 0 (omega (arith, h, c.requires.condition))
        (omega (arith, h, length-replicate {A = ℕ} g.row.L w.turned.result)),
    get_or-replicate {A = ℕ} g.row.L k w.turned.result 0 h,
  )
      (bit-asked c.args.always c.args.sense (get_or c.args.condition k 0)
      w.turned.result p w.if-always.false w.turned.ensures.value below)
]
