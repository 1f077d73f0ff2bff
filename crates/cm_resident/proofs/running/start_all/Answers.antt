use Rattle.std.proofs.Common.{rules, ◌≡◌, ap, subst, sym, ◌∙◌}
use Rattle.cm_resident.specs.declared.running.PendingWorker.{PendingWorker}
use Rattle.cm_turns.specs.Workers.{IsOfSome}
use Rattle.cm_resident.proofs.Fronts.{first_taken, rest_left, one_beside, one_further}
use Rattle.cm_resident.proofs.running.start_all.Goals as goal

pub start-requires : goal.start-requires
start-requires g c =
    let here = first_taken c.args.readies.items c.loop-w.readies.items c.loop-w._w c.remove-ready.result
    c.loop-w.invariant.left (search rules) c.remove-ready.ensures.value c.remove-ready.result in (
      search rules,
      subst (λ (x : PendingWorker). IsOfSome x.worker) (sym here)
          (c.requires.team c.loop-w._w c.remove-ready.result (search rules)),
    )

pub loop-w-preserved : goal.loop-w-preserved
loop-w-preserved g c =
    let inv = c.loop-w.invariant in
    let here = first_taken c.args.readies.items c.loop-w.readies.items c.loop-w._w c.remove-ready.result
    inv.left (search rules) c.remove-ready.ensures.value in record {
      started = search rules;
      room = search rules;
      left = rest_left c.args.readies.items c.loop-w.readies.items c.remove-ready.new.self.items c.loop-w._w inv.left
          c.remove-ready.ensures.by_index.2;
      promised = λ w d e below. one_beside (λ (x : PendingWorker) h. h.promise.was.value ≡ x.worker)
          c.args.readies.items c.loop-w.handles.items c.push_reserved.new.self.items c.in_ok-start.field-0 c.loop-w._w
          inv.started c.push_reserved.ensures.items (λ v a b l. inv.promised v a b l)
          (λ b. c.in_ok-start.ensures.ok ∙ ap (λ (x : PendingWorker). x.worker) (here b)) w d e below;
      admitted = λ gate is. one_further (λ (x : PendingWorker). (goal.Gate-dyn g (gate.vtable, gate.value)).admits gate.value x.worker.id)
          c.args.readies.items c.loop-w._w c.remove-ready.result (inv.admitted gate is) here
          (c.in_ok-start.ensures.admitted gate is);
    }
