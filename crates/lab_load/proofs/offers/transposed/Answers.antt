use Rattle.std.proofs.Common.{◌≡◌, ℕ, ◌+◌, ◌-◌, ◌*◌, ◌/◌, ◌%◌, ◌^◌, ◌<◌, ◌≤◌, ap, arith, lit<}
use Rattle.std.proofs.Math.Nat.{pow-le-pow_right, mul-le-mul, mod-eq_of_lt, div-le_self}
use Rattle.lab_load.proofs.offers.transposed.Goals as goal

shifted : (n place : ℕ) → n ≤ 12 → place < 65536 → place * 2 ^ (n + 4 - (n + 4) / 2) < 16777216
shifted n place h l =
    let high : n + 4 - (n + 4) / 2 ≤ 8 = omega arith in
    let most : 2 ^ (n + 4 - (n + 4) / 2) ≤ 2 ^ 8 = pow-le-pow_right (lit< tt) high in
    let some : place ≤ 65535 = omega arith in
    let all : place * 2 ^ (n + 4 - (n + 4) / 2) ≤ 65535 * 2 ^ 8 = mul-le-mul some most in
    omega (arith, all)

whole : (n place : ℕ) → n ≤ 12 → place < 65536
    → place * 2 ^ (n + 4 - (n + 4) / 2) % 4294967296 ≡ place * 2 ^ (n + 4 - (n + 4) / 2)
whole n place h l =
    let below : place * 2 ^ (n + 4 - (n + 4) / 2) < 4294967296 = omega (arith, shifted n place h l) in
    mod-eq_of_lt below

pub overflow_add-result : goal.overflow_add-result
overflow_add-result c =
    omega (
      arith,
      shifted c.args.n c.args.place c.requires.dimension c.requires.place,
      whole c.args.n c.args.place c.requires.dimension c.requires.place,
      div-le_self c.args.place (2 ^ ((c.args.n + 4) / 2)),
    )

pub returns : goal.returns
returns c = record {
  value = ap (λ (x : ℕ). c.args.place / 2 ^ ((c.args.n + 4) / 2) + x)
      (whole c.args.n c.args.place c.requires.dimension c.requires.place);
}
