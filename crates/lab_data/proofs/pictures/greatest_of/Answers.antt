use Rattle.std.proofs.Common.{◌≡◌, ℕ, ◌*◌, ◌%◌, ◌^◌, ◌≤◌, lit<, arith}
use Rattle.std.proofs.Math.Nat.{pow-le-pow_right}
use Rattle.std.proofs.lemmas.Nat.{one_shl, pow_pos}
use Rattle.lab_data.proofs.pictures.greatest_of.Goals as goal

whole : (len : ℕ) → len ≤ 16 → 1 * 2 ^ len % 4294967296 ≡ 2 ^ len
whole len h = one_shl len 32 (omega (arith, h))

few : (len : ℕ) → len ≤ 16 → 2 ^ len ≤ 65536
few len h = pow-le-pow_right (lit< tt) h

pub overflow_sub-result : goal.overflow_sub-result
overflow_sub-result c =
    omega (arith, whole c.args.len c.requires.narrow, few c.args.len c.requires.narrow, pow_pos c.args.len)

pub overflow_cast-result : goal.overflow_cast-result
overflow_cast-result c =
    omega (arith, whole c.args.len c.requires.narrow, few c.args.len c.requires.narrow, pow_pos c.args.len)

pub returns : goal.returns
returns c = record {
  value = omega (arith, whole c.args.len c.requires.narrow, few c.args.len c.requires.narrow, pow_pos c.args.len);
}
