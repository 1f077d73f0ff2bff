use Rattle.std.proofs.Common.{◌≡◌, ◌+◌, ◌≤◌, length}
use Rattle.cm_router.specs.Cuts.{most_wires}
use Rattle.lab_fresh.specs.Drawn.{drawn_of_first}
use Rattle.lab_fresh.proofs.wires.drawn_wires.Given as goal

-- those of so many wires: no more than are wanted, and what is wanted there is left of
abbrev pub invariant-loop-i : goal.invariant-loop-i
invariant-loop-i l = record {
  value : l.ends.items ≡ drawn_of_first l.n l.count l.seed l.i;
  few : length l.ends.items ≤ l.count;
  left : l.count + l.i ≤ length l.ends.items + most_wires l.n;
}
