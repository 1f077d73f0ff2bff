use Rattle.std.proofs.Common.{◌≡◌, ℕ, ◌+◌, ◌<◌, List, length}
use Rattle.cm_bits.specs.Bit.{bit}
use Rattle.cm_element.specs.Puts.{ArePut}
use Rattle.cm_element.proofs.run.memory.put_sixteen.Given as goal

-- so many bits were put, and the rows are as they should be
abbrev pub invariant-loop-i : goal.invariant-loop-i
invariant-loop-i l = record {
  put : (first : List ℕ) (from put number : ℕ) → l.at ≡ from + put
      → ((k : ℕ) → k < 16 → bit l.bits k ≡ bit number (put + k))
      → ArePut first l.slots l.spot.stride l.spot.place l.proc from put number l.fn.words
      → ArePut first l.slots l.spot.stride l.spot.place l.proc from (put + l.i) number l.words;
  long : length l.words ≡ length l.fn.words;
}
