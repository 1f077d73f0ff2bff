use Rattle.std.proofs.Common.{rules, subst}
use Rattle.std.specs.Prelude.{IfSome}
use Rattle.cm_turns.specs.Workers.{HasWorked}
use Rattle.cm_resident.proofs.Fronts.{first_taken, rest_left, one_beside}
use Rattle.cm_resident.proofs.running.join_all.Goals as goal

pub loop-w-preserved : goal.loop-w-preserved
loop-w-preserved g c =
    let inv = c.loop-w.invariant in
    let here = first_taken c.args.handles.items c.loop-w.handles.items c.loop-w._w c.remove-handle.result
    inv.rest (search rules) c.remove-handle.ensures.value in record {
      count = search rules;
      room = search rules;
      rest = rest_left c.args.handles.items c.loop-w.handles.items c.remove-handle.new.self.items c.loop-w._w inv.rest
          c.remove-handle.ensures.by_index.2;
      kept = λ w d e below. one_beside
          (λ h r. IfSome r (λ blocks. HasWorked h.promise.was.value blocks.items))
          c.args.handles.items c.loop-w.left.items c.push_reserved.new.self.items c.join.result c.loop-w._w
          inv.count c.push_reserved.ensures.items (λ v a b l. inv.kept v b a l)
          (λ a. subst (λ h. IfSome c.join.result (λ blocks. HasWorked h.promise.was.value blocks.items)) (here a)
          c.join.ensures) w e d below;
    }
