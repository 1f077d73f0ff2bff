use Rattle.std.proofs.Common.{rules, ◌≡◌, subst, sym, ◌∙◌}
use Rattle.std.proofs.lemmas.List.Elements.{All-push}
use Rattle.std.specs.List.{All}
use Rattle.cm_turns.specs.declared.worker.Worker.{Worker}
use Rattle.cm_resident.specs.declared.running.PendingWorker.{PendingWorker}
use Rattle.cm_resident.proofs.Fronts.{first_taken, rest_left, one_beside}
use Rattle.cm_resident.proofs.running.line_up.Goals as goal

pub loop-w-preserved : goal.loop-w-preserved
loop-w-preserved c =
    let inv = c.loop-w.invariant in
    let here = first_taken c.args.team.items c.loop-w.team.items c.loop-w._w c.remove-worker.result
    inv.left (search rules) c.remove-worker.ensures.value in
    let untold : c.in_ok-starter.starter ≡ 0 = search rules in record {
      first = search rules;
      second = search rules;
      first_room = search rules;
      second_room = search rules;
      untold = subst (λ words. All (λ word. word ≡ 0) words) (sym c.push_reserved-in-loop-w.ensures.items)
          (All-push (λ word. word ≡ 0) c.loop-w.starters.items c.in_ok-starter.starter inv.untold untold);
      left = rest_left c.args.team.items c.loop-w.team.items c.remove-worker.new.self.items c.loop-w._w inv.left
          c.remove-worker.ensures.by_index.2;
      each = λ w d e below. one_beside (λ (x : Worker) (h : PendingWorker). h.worker ≡ x)
          c.args.team.items c.loop-w.readies.items c.push_reserved.new.self.items _ c.loop-w._w
          inv.first c.push_reserved.ensures.items (λ v a b l. inv.each v a b l)
          (λ b. c.new-worker.ensures.value ∙ here b) w d e below;
    }
