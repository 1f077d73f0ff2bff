use Rattle.std.proofs.Common.{◌≢◌, ℕ, ◌+◌, ◌-◌, ◌*◌, ◌<◌, length, get_or, refl, arith, below_more, get_or-set_same, get_or-set_other}
use Rattle.cm_news.proofs.Rounding.{in_rows, other_column, earlier_row, joined_there, one_more_on}
use Rattle.cm_news.proofs.row.turn_on.Goals as goal

pub loop-k-preserved : goal.loop-k-preserved
loop-k-preserved c =
    one_more_on c.args.dir c.args.planes.now c.loop-k.out c.loop-k.k c.joined.result (omega (arith, c.loop-k.auto.k))
    (omega arith) c.loop-k.invariant c.joined.ensures.value

pub loop-row-init : goal.loop-row-init
loop-row-init c =
    let w : ℕ = c.args.columns in
    record {
      inside = λ q r h few.
          let there = in_rows c.args.rows w q (r + 1) h few in
          joined_there c.args.dir c.args.planes.now c.loop-k.out (q * w + r) (q * w + r) (q * w + r + 1) (q * w + (r + 1))
          (q * w + r) (q * w + r) refl (omega arith) refl
          (c.loop-k.invariant (q * w + r) (omega (arith, there, c.requires.planes)));
      ends = λ q h. absurd (omega arith);
    }

pub loop-row-preserved : goal.loop-row-preserved
loop-row-preserved c =
    let w : ℕ = c.args.columns in
    let row : ℕ = c.loop-row.row in
    let now = c.loop-row.invariant in
    let some = c.requires.some in
    record {
      inside = λ q r h few.
          let apart : r ≢ w - 1 = omega arith in
          let ne : q * w + r ≢ row * w + (w - 1) =
          other_column w q row r (w - 1) (omega arith) (omega (arith, some)) apart in
          rw get_or-set_other (now.inside q r h few);
      ends = below_more _ _
          (λ q h. let ne : q * w + (w - 1) ≢ row * w + (w - 1) =
          earlier_row w q row (w - 1) (w - 1) (omega (arith, some)) h in
          rw get_or-set_other (now.ends q h))
          (let here = in_rows c.args.rows w row (w - 1) (omega arith) (omega (arith, some)) in
          let lt : row * w + (w - 1) < length c.loop-row.out = omega (arith, here, c.requires.planes) in
          rw get_or-set_same c.joined-in-loop-row.ensures.value);
    }

pub returns : goal.returns
returns c =
    let w : ℕ = c.args.columns in
    let now = c.loop-row.invariant in
    record {
      value = λ q r h few. record {
        straight = λ l. now.inside q r h l;
        over = λ l. joined_there c.args.dir c.args.planes.now c.loop-row.out (q * w + (w - 1)) (q * w + r) (q * w)
            (q * w + (r - (w - 1))) (q * w + (w - 1)) (q * w + r) (omega arith) (omega arith) (omega arith)
            (now.ends q (omega (arith, h)));
      };
    }
