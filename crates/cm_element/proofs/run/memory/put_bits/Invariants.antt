use Rattle.cm_element.specs.Puts.{ArePut}
use Rattle.cm_element.proofs.run.memory.put_bits.Given as goal

-- so many bits were put, and the rows are as they should be
abbrev pub invariant-loop-i : goal.invariant-loop-i
invariant-loop-i l = record {
  put : ArePut l.fn.words l.slots l.spot.stride l.spot.place l.proc l.at l.i l.value l.words;
}
