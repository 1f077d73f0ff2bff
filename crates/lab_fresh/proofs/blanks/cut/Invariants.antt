use Rattle.std.proofs.Common.{◌≡◌, take}
use Rattle.lab_fresh.specs.Fresh.{wires_with}
use Rattle.lab_fresh.proofs.blanks.cut.Given as goal

-- the wires with the ends so far are cut
abbrev pub invariant-loop-end : goal.invariant-loop-end
invariant-loop-end l = l.cuts ≡ record l.fn.cuts { wires = wires_with l.fn.cuts.wires (take l.end-index l.ends) }
