use Rattle.std.proofs.Common.{◌≡◌, ◌≤◌, vec_len, vec_capacity}
use Rattle.std.specs.List.{All}
use Rattle.cm_router_engine.proofs.ranking.has_blank.Given as goal

abbrev pub invariant-loop-number : goal.invariant-loop-number
invariant-loop-number l = record {
  blank : All (λ place. place ≡ 65535) l.moved.items;
  len : vec_len l.moved ≡ l._number;
  room : l.count ≤ vec_capacity l.moved;
}
