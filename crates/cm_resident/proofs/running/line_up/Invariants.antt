use Rattle.std.proofs.Common.{◌≡◌, ◌<◌, ◌≤◌, ℕ, drop, length, get_or, vec_capacity}
use Rattle.std.specs.List.{All}
use Rattle.cm_resident.proofs.running.line_up.Given as goal

abbrev pub invariant-loop-w : goal.invariant-loop-w
invariant-loop-w l = record {
  first : length l.readies.items ≡ l._w;
  second : length l.starters.items ≡ l._w;
  first_room : l.count ≤ vec_capacity l.readies;
  second_room : l.count ≤ vec_capacity l.starters;
  untold : All (λ word. word ≡ 0) l.starters.items;
  left : l.team.items ≡ drop l._w l.fn.team.items;
  each : (w : ℕ) (d : _) (e : _) → w < l._w → (get_or l.readies.items w d).worker ≡ get_or l.fn.team.items w e;
}
