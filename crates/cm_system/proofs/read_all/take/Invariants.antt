use Rattle.std.proofs.Common.{◌≡◌, ◌≤◌, ◌-◌, false, vec_len}
use Rattle.std.specs.Io.KnownBytes.{Consumes}
use Rattle.cm_system.proofs.read_all.take.Given as goal

abbrev pub invariant-loop-count : goal.invariant-loop-count
invariant-loop-count g l = record {
  within : vec_len l.taken ≤ l.limit;
  consumed : Consumes (g.I.Source.left l.fn.source) (g.I.Source.left l.source) l.taken.items;
  working : g.I.Source.has_failed l.source ≡ false;
}

abbrev pub decreases-loop-count : goal.decreases-loop-count
decreases-loop-count g l = l.limit - vec_len l.taken
