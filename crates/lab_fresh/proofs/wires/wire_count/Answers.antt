use Rattle.std.proofs.Common.{◌≡◌, ℕ, ◌*◌, ◌/◌, ◌%◌, ◌^◌, ◌≤◌, arith}
use Rattle.std.proofs.lemmas.Nat.{one_shl}
use Rattle.lab_fresh.proofs.Halving.{all_ends}
use Rattle.lab_fresh.proofs.wires.wire_count.Goals as goal

ends_fit : (n m chips : ℕ) → n ≤ 12 → m ≡ n → chips ≡ 2 ^ n → m * chips ≤ 49152
ends_fit n m chips h is all = rw (is, all) (all_ends n h)

pub overflow_mul-result : goal.overflow_mul-result
overflow_mul-result c =
    omega (
      arith,
      ends_fit c.args.n c.from.result (1 * 2 ^ c.args.n % 4294967296) c.requires.dimension c.from.ensures
          (one_shl c.args.n 32 (omega (arith, c.requires.dimension))),
    )

pub returns : goal.returns
returns c =
    let all : 1 * 2 ^ c.args.n % 4294967296 ≡ 2 ^ c.args.n = one_shl c.args.n 32 (omega (arith, c.requires.dimension)) in
    record {
      value = λ i. c.from.ensures i * all i / 2;
      within = omega (
        arith,
        ends_fit c.args.n c.from.result (1 * 2 ^ c.args.n % 4294967296) c.requires.dimension c.from.ensures all,
      );
    }
