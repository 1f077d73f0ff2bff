use Rattle.std.proofs.Common.{◌≡◌, ℕ, ◌<◌, ◌≤◌, ◌++◌, length, get_or, None}
use Rattle.std.specs.Option.{option_to_list}
use Rattle.cm_model.specs.Array.{nth_or_nil}
use Rattle.cm_router_engine.proofs.router_engine.RouterEngine.take_in.Given as goal

abbrev pub invariant-loop-chip : goal.invariant-loop-chip
invariant-loop-chip l = record {
  long : length l.self.buffers ≡ length l.initial.self.buffers;
  done : (c : ℕ) → c < l.chip
      → nth_or_nil l.self.buffers c ≡ nth_or_nil l.initial.self.buffers c ++ option_to_list (get_or l.initial.leavers c None);
  ahead : (c : ℕ) → l.chip ≤ c → nth_or_nil l.self.buffers c ≡ nth_or_nil l.initial.self.buffers c;
  blank : (c : ℕ) → c < l.chip → get_or l.leavers c None ≡ None;
  rest : (c : ℕ) → l.chip ≤ c → get_or l.leavers c None ≡ get_or l.initial.leavers c None;
}
