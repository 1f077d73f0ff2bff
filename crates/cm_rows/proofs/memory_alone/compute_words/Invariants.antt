use Rattle.std.proofs.Common.{false}
use Rattle.cm_rows.specs.Rows.{IsComputed}
use Rattle.cm_rows.proofs.memory_alone.compute_words.Given as goal

-- the words before this one
abbrev pub invariant-loop-k : goal.invariant-loop-k
invariant-loop-k l = IsComputed l.table false l.always l.sense l.at l.at.a l.from l.k l.initial.memory l.flags
    l.initial.memory l.memory
