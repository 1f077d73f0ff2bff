use Rattle.std.proofs.Common.{◌≡◌, ◌≤◌, length, vec_len, vec_capacity}
use Rattle.cm_router_engine.proofs.ranking.sort_numbers.Given as goal

abbrev pub invariant-loop-number : goal.invariant-loop-number
invariant-loop-number l = record {
  len : vec_len l.keys ≡ l.number;
  room : length l.row ≤ vec_capacity l.keys;
  capacity : vec_capacity l.keys ≡ vec_capacity l.fn.keys;
}
