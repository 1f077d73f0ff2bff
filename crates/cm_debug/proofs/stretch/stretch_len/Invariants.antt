use Rattle.std.proofs.Common.{◌≡◌, ◌-◌, ◌<◌, ◌≤◌, length, take}
use Rattle.cm_array.specs.Acts.{cycles_in}
use Rattle.cm_session.specs.Stretches.{IsStretch}
use Rattle.cm_debug.specs.State.{stops_at}
use Rattle.cm_debug.proofs.stretch.stretch_len.Given as goal

abbrev pub invariant-loop-count : goal.invariant-loop-count
invariant-loop-count l = record {
  some : 0 < l.count;
  within : l.count ≤ length l.acts;
  few : l.count ≤ 4096;
  cycles : l.cycles ≡ cycles_in (take l.count l.acts);
  few_cycles : l.cycles ≤ 64;
  stretch : IsStretch (stops_at l.stops l.debugger.breakpoints.items)
      l.debugger.trace l.debugger.position l.clock (take l.count l.acts);
}

abbrev pub decreases-loop-count : goal.decreases-loop-count
decreases-loop-count l = length l.acts - l.count
