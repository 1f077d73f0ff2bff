use Rattle.std.proofs.Common.{◌≡◌, ◌≤◌, ◌*◌, take, sum_by}
use Rattle.lab_study.specs.Traces.{trace_of, referrals}
use Rattle.lab_study.proofs.counting.referred.Given as goal

-- those of so many messages
abbrev pub invariant-loop-message : goal.invariant-loop-message
invariant-loop-message l = record {
  so_far : l.total ≡ sum_by (λ m. referrals (trace_of l.ways l.chip m) m) (take l.message-index l.messages);
  within : l.total ≤ l.message-index * 16;
}
