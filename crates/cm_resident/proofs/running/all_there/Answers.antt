use Rattle.std.proofs.Common.{rules, ◌≡◌, ◌∙◌, Some, sym}
use Rattle.cm_resident.proofs.Fronts.{first_taken, rest_left, one_beside}
use Rattle.cm_resident.proofs.running.all_there.Goals as goal

pub loop-w-preserved : goal.loop-w-preserved
loop-w-preserved g c =
    let inv = c.loop-w.invariant in
    let here = first_taken c.args.left.items c.loop-w.left.items c.loop-w._w c.remove.result
    inv.rest (search rules) c.remove.ensures.value in record {
      count = search rules;
      room = search rules;
      rest = rest_left c.args.left.items c.loop-w.left.items c.remove.new.self.items c.loop-w._w inv.rest
          c.remove.ensures.by_index.2;
      each = λ w d e below. one_beside (λ o x. o ≡ Some x)
          c.args.left.items c.loop-w.shares.items c.push_reserved.new.self.items c.in-Some.share c.loop-w._w
          inv.count c.push_reserved.ensures.items (λ v a b l. inv.each v b a l)
          (λ a. sym (here a) ∙ c.in-Some.is) w e d below;
    }
