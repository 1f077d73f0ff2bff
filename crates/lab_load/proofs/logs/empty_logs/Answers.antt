use Rattle.std.proofs.Common.{◌≡◌, ℕ, ◌<◌, [], length, ◌∙◌, arith}
use Rattle.std.proofs.lemmas.List.{length-set}
use Rattle.cm_router.specs.Logs.{Log}
use Rattle.lab_load.proofs.Emptying.{written, roomed, all_empty, all_roomed}
use Rattle.lab_load.proofs.logs.empty_logs.Goals as goal

pub loop-c-preserved : goal.loop-c-preserved
loop-c-preserved c =
    let inside : c.loop-c.c < length c.loop-c.logs = omega arith in
    record {
      empty = written (λ (k : ℕ) (log : Log). log.items ≡ []) c.loop-c.logs c.loop-c.c c.empty_log.new.log inside
          c.empty_log.ensures.items c.loop-c.invariant.empty;
      room = roomed c.loop-c.logs c.args.room c.loop-c.c c.empty_log.new.log inside c.in_ok-empty_log.ensures.ok
          c.loop-c.invariant.room;
      count = length-set c.loop-c.logs c.loop-c.c c.empty_log.new.log ∙ c.loop-c.invariant.count;
    }

pub returns-clause-empty : goal.returns-clause-empty
returns-clause-empty c =
    all_empty c.loop-c.logs (length c.args.logs.now) c.loop-c.invariant.count
    (λ k d h. c.loop-c.invariant.empty k d (omega (arith, h)))

pub returns-clause-log_room : goal.returns-clause-log_room
returns-clause-log_room c =
    all_roomed c.loop-c.logs c.args.room (λ k h. c.loop-c.invariant.room k (omega (arith, h)))
