use Rattle.std.proofs.Common.{◌≡◌, ℕ, ◌-◌, ◌*◌, ◌/◌, ◌%◌, ◌^◌, ◌<◌, ◌≤◌, sym, subst, arith}
use Rattle.std.proofs.lemmas.Nat.{one_shl, mod_below, pow_pos}
use Rattle.lab_fresh.proofs.Halving.{dimension_of, half_within}
use Rattle.lab_fresh.proofs.wires.wire_end.Goals as goal

half_is : (n : ℕ) → n ≤ 12 → 1 * 2 ^ (n - 1) % 4294967296 ≡ 2 ^ (n - 1)
half_is n h = one_shl (n - 1) 32 (omega arith)

dimension_fits : (n i half : ℕ) → n ≤ 12 → i < n * 2 ^ n / 2 → half ≡ 2 ^ (n - 1) → i / half < 12
dimension_fits n i half h l is =
    subst (λ (k : ℕ). i / k < 12) (sym is) (omega (arith, dimension_of n i l, h))

rest_fits : (n i half : ℕ) → n ≤ 12 → half ≡ 2 ^ (n - 1) → i % half < 2048
rest_fits n i half h is =
    subst (λ (k : ℕ). i % k < 2048) (sym is)
    (omega (arith, mod_below i (2 ^ (n - 1)) (pow_pos (n - 1)), half_within n h))

pub overflow_cast-i : goal.overflow_cast-i
overflow_cast-i c =
    omega (
      arith,
      dimension_fits c.args.n c.args.i _ c.requires.dimension c.requires.wire (half_is c.args.n c.requires.dimension),
    )

pub lower_end-requires-clause-dimension : goal.lower_end-requires-clause-dimension
lower_end-requires-clause-dimension c =
    dimension_fits c.args.n c.args.i _ c.requires.dimension c.requires.wire (half_is c.args.n c.requires.dimension)

pub lower_end-requires-clause-few : goal.lower_end-requires-clause-few
lower_end-requires-clause-few c =
    rest_fits c.args.n c.args.i _ c.requires.dimension (half_is c.args.n c.requires.dimension)
