use Rattle.std.proofs.Common.{◌≡◌, ◌==◌, if◌then◌else◌, ℕ, ◌<◌, ◌≤◌, ◌+◌, get_or}
use Rattle.cm_image_dump.proofs.counts.count_row.Given as goal

-- the chips that were counted, and the others as they were
abbrev pub invariant-loop-c : goal.invariant-loop-c
invariant-loop-c l = record {
  done : (k : ℕ) → k < l.c
      → get_or l.counts k 0 ≡ get_or l.initial.counts k 0 + (if get_or l.row k 0 == 0 then 0 else 1);
  rest : (k : ℕ) → l.c ≤ k → get_or l.counts k 0 ≡ get_or l.initial.counts k 0;
}
