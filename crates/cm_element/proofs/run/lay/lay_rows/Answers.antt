use Rattle.std.proofs.Common.{◌≡◌, ℕ, List, ◌+◌, ◌-◌, ◌*◌, ◌≤◌, length, take, drop, arith}
use Rattle.cm_element.proofs.Columns.{row_within}
use Rattle.cm_element.proofs.Laying.{get_or-part, length-part, laid_more, others_more, IsPutAt}
use Rattle.cm_element.proofs.run.lay.lay_rows.Goals as goal

pub loop-row-preserved : goal.loop-row-preserved
loop-row-preserved c =
    let here = c.args.here in
    let there = c.args.there in
    let from : List ℕ = c.args.from.now in
    let row : ℕ = c.loop-row.row in
    let place : ℕ = row * there.stride + there.first in
    let few : place + c.args.count - place ≡ c.args.count = omega arith in
    let within : row * there.stride + there.stride ≤ c.args.rows * there.stride =
    row_within row c.args.rows there.stride c.loop-row-test.true in
    let part : List ℕ = take (place + c.args.count - place) (drop place from) in
    let long : length part ≡ c.args.count = length-part from place (place + c.args.count) c.args.count few
    (omega (arith, within, c.requires.there, c.requires.from)) in
    let put : IsPutAt (row * here.stride + here.first) c.args.count part c.loop-row.to c.put_row.new.rows = record {
      value = λ k h. c.put_row.ensures.value k (omega (arith, h, long));
      below = c.put_row.ensures.below;
      above = λ i h. c.put_row.ensures.above i (omega (arith, h, long));
    } in
    record {
      laid = laid_more here there row c.args.count from c.loop-row.to c.put_row.new.rows part c.requires.here put
          (λ k h. get_or-part from place (place + c.args.count) c.args.count k few h) c.loop-row.invariant.laid;
      others = others_more here row c.args.count c.args.to.now c.loop-row.to c.put_row.new.rows part c.requires.here put
          c.loop-row.invariant.others;
    }
