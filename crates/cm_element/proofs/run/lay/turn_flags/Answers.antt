use Rattle.std.proofs.Common.{ℕ, List, ◌+◌, ◌*◌, drop, get_or, sym, ◌∙◌}
use Rattle.std.proofs.lemmas.List.{get_or-drop}
use Rattle.cm_element.proofs.Laying.{put_more, others_more, IsPutAt}
use Rattle.cm_element.proofs.run.lay.turn_flags.Goals as goal

pub loop-row-preserved : goal.loop-row-preserved
loop-row-preserved c =
    let here = c.args.here in
    let row : ℕ = c.loop-row.row in
    let planes : List ℕ = c.args.planes.now in
    let place : ℕ = row * here.stride + here.first in
    let new : List ℕ = c.turn_row.new.rows in
    let put : IsPutAt place c.args.count (drop place new) c.loop-row.rows new = record {
      value = λ k h. sym (get_or-drop place new k 0);
      below = c.turn_row.ensures.value.below;
      above = c.turn_row.ensures.value.above;
    } in
    record {
      laid = put_more here row c.args.count (λ i k. get_or planes (k * 16 + i) 0) c.loop-row.rows new (drop place new)
          c.requires.here put (λ k h. get_or-drop place new k 0 ∙ c.turn_row.ensures.value.laid k h)
          c.loop-row.invariant.laid;
      others = others_more here row c.args.count c.args.rows.now c.loop-row.rows new (drop place new) c.requires.here put
          c.loop-row.invariant.others;
    }
