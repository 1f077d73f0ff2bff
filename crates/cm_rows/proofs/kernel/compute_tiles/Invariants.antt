use Rattle.std.proofs.Common.{false, ◌*◌}
use Rattle.cm_rows.specs.Rows.{IsComputed}
use Rattle.cm_rows.proofs.kernel.compute_tiles.Given as goal

-- the words before this one
abbrev pub invariant-loop-t : goal.invariant-loop-t
invariant-loop-t l = record {
  memory : IsComputed l.tables.0 false l.always l.sense l.at l.at.a 0 (256 * l.t)
      l.initial.memory l.initial.flags l.initial.memory l.memory;
  flags : IsComputed l.tables.1 l.chained l.always l.sense l.at l.at.write 0 (256 * l.t)
      l.initial.memory l.initial.flags l.initial.flags l.flags;
}
