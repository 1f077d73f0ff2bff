use Rattle.std.proofs.Common.{false, ◌*◌}
use Rattle.cm_rows.specs.Rows.{IsComputed}
use Rattle.cm_rows.proofs.memory_alone.compute_tiles.Given as goal

-- the words before this one
abbrev pub invariant-loop-t : goal.invariant-loop-t
invariant-loop-t l = IsComputed l.table false l.always l.sense l.at l.at.a 0 (256 * l.t)
    l.initial.memory l.flags l.initial.memory l.memory
