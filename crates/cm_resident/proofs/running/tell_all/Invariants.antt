use Rattle.std.proofs.Common.{◌≡◌, ℕ, ◌<◌, ◌≤◌, length, get_or}
use Rattle.cm_starts.specs.Starting.{start_word_for}
use Rattle.cm_resident.proofs.running.tell_all.Given as goal

abbrev pub invariant-loop-i : goal.invariant-loop-i
invariant-loop-i l = record {
  count : length l.starters.items ≡ length l.initial.starters.items;
  told : (i : ℕ) (d : ℕ) → i < l.i → get_or l.starters.items i d ≡ start_word_for l.are_started;
  rest : (i : ℕ) (d : ℕ) → l.i ≤ i → get_or l.starters.items i d ≡ get_or l.initial.starters.items i d;
}
