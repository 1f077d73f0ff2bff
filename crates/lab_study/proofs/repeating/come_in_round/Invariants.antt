use Rattle.std.proofs.Common.{◌≡◌, ◌≤◌, ◌*◌, ◌^◌, take, sum_by}
use Rattle.lab_study.specs.Repeats.{come_count}
use Rattle.lab_study.proofs.repeating.come_in_round.Given as goal

-- at so many times
abbrev pub invariant-loop-time : goal.invariant-loop-time
invariant-loop-time l = record {
  so_far : l.count ≡ sum_by (λ time. come_count time.items) (take l.time-index l.round);
  within : l.count ≤ l.time-index * 2 ^ 64;
}
