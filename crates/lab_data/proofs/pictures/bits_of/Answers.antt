use Rattle.std.proofs.Common.{◌≡◌, ℕ, ◌+◌, ◌-◌, ◌*◌, ◌%◌, ◌^◌, ◌<◌, sym, ◌∙◌, arith}
use Rattle.std.proofs.lemmas.Nat.{one_shl}
use Rattle.lab_data.proofs.Bits.{bits_from-here, bits_from-next, bits_from-none}
use Rattle.lab_data.proofs.pictures.bits_of.Goals as goal

whole : (len : ℕ) → len < 17 → 1 * 2 ^ len % 18446744073709551616 ≡ 2 ^ len
whole len h = one_shl len 64 (omega (arith, h))

pub returns-then-from-len : goal.returns-then-from-len
returns-then-from-len c = record {
  value = sym (bits_from-here c.args.greatest c.loop-len.len (17 - c.loop-len.len)
      (omega (arith, c.loop-len-test.true))
      (omega (arith, c.if-from-len.true, c.from.ensures, whole c.loop-len.len c.loop-len-test.true)))
      ∙ c.loop-len.invariant;
}

pub loop-len-preserved : goal.loop-len-preserved
loop-len-preserved c =
    sym (bits_from-next c.args.greatest c.loop-len.len (17 - c.loop-len.len) (17 - (c.loop-len.len + 1))
    (omega (arith, c.loop-len-test.true))
    (λ e. c.if-from-len.false (omega (arith, e, c.from.ensures, whole c.loop-len.len c.loop-len-test.true))))
    ∙ c.loop-len.invariant

pub returns : goal.returns
returns c = record {
  value = sym (bits_from-none c.args.greatest c.loop-len.len (17 - c.loop-len.len)
      (omega (arith, c.loop-len-test.false))) ∙ c.loop-len.invariant;
}
