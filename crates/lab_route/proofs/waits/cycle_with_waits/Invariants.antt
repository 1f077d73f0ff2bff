use Rattle.std.proofs.Common.{◌≡◌}
use Rattle.lab_route.specs.Waits.{machine_in_cycle, crossing_waits}
use Rattle.lab_route.proofs.waits.cycle_with_waits.Given as goal

-- after injection and so many dimensions, and why it waited in these
abbrev pub invariant-loop-dim : goal.invariant-loop-dim
invariant-loop-dim l = record {
  machine : l.machine ≡ record l.fn.machine {
    machine = machine_in_cycle l.fn.machine.n l.fn.machine.cap l.fn.machine.machine l.dim;
  };
  waits : l.waits.items
      ≡ crossing_waits l.fn.machine.n l.fn.machine.cap l.tag l.fn.machine.machine l.dim;
}
