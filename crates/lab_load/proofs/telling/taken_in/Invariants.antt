use Rattle.std.proofs.Common.{◌≡◌, ◌≤◌, ◌*◌, take, sum_by}
use Rattle.std.specs.List.{count_by}
use Rattle.lab_load.specs.Telling.{is_injection_event}
use Rattle.lab_load.proofs.telling.taken_in.Given as goal

-- those of so many logs
abbrev pub invariant-loop-log : goal.invariant-loop-log
invariant-loop-log l = record {
  so_far : l.taken ≡ sum_by (λ log. count_by is_injection_event log.items) (take l.log-index l.logs);
  within : l.taken ≤ l.log-index * 18446744073709551616;
}
