use Rattle.std.proofs.Common.{◌≡◌, ◌-◌, ◌/◌, ◌^◌, ◌≤◌, length}
use Rattle.cm_element.specs.Puts.{ArePut}
use Rattle.cm_element.proofs.run.memory.put_sixteens.Given as goal

abbrev pub decreases-loop-put : goal.decreases-loop-put
decreases-loop-put l = l.len - l.put

abbrev pub invariant-loop-put : goal.invariant-loop-put
invariant-loop-put l = record {
  put : ArePut l.fn.words l.slots l.spot.stride l.spot.place l.proc l.at l.put l.number l.words;
  rest : l.rest ≡ l.number / 2 ^ l.put;
  within : l.put ≤ l.len;
  long : length l.words ≡ length l.fn.words;
}
