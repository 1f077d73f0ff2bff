use Rattle.std.proofs.Common.{rules, ◌≡◌, ◌<◌, ◌∙◌, None, length, get_or, subst, arith}
use Rattle.std.proofs.lemmas.Result.{IfOk-weaker}
use Rattle.std.specs.Prelude.{IfSome}
use Rattle.cm_turns.specs.declared.worker.Worker.{Worker}
use Rattle.cm_turns.specs.Workers.{HasWorked}
use Rattle.cm_resident.proofs.Ending.{first_of}
use Rattle.cm_resident.proofs.running.start_and_join.Goals as goal

pub returns : goal.returns
returns g c =
    let started = c.start_team-started in
    let handles = started.new.handles.items in
    let count : length handles ≡ length c.args.all.readies.items = search rules in
    let there = c.all_there.ensures in record {
      count = IfOk-weaker c.all_there.result _ _ (λ all is. is ∙ c.join_all.ensures.count ∙ count) there.count;
      value = IfOk-weaker c.all_there.result _ _ (λ all is w d e below.
          let one : w < length handles = omega (arith, below, count) in
          let h = first_of handles (omega (arith, one)) in
          let left = c.join_all.ensures.value w h None one in
          let share = is w None e (omega (arith, one, c.join_all.ensures.count)) in
          subst (λ (x : Worker). HasWorked x (get_or all.items w e).items)
          (started.ensures.value w h d one)
          (subst (λ o. IfSome o (λ blocks. HasWorked (get_or handles w h).promise.was.value blocks.items)) share left))
          there.value;
      admitted = IfOk-weaker c.all_there.result _ _ (λ all _. c.in_ok-started.ensures.admitted) there.count;
    }
