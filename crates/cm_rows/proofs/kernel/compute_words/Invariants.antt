use Rattle.std.proofs.Common.{false}
use Rattle.cm_rows.specs.Rows.{IsComputed}
use Rattle.cm_rows.proofs.kernel.compute_words.Given as goal

-- the words before this one
abbrev pub invariant-loop-k : goal.invariant-loop-k
invariant-loop-k l = record {
  memory : IsComputed l.tables.0 false l.always l.sense l.at l.at.a l.from l.k l.initial.memory l.initial.flags
      l.initial.memory l.memory;
  flags : IsComputed l.tables.1 l.chained l.always l.sense l.at l.at.write l.from l.k l.initial.memory l.initial.flags
      l.initial.flags l.flags;
}
