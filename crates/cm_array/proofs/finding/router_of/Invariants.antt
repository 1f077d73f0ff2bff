use Rattle.std.proofs.Common.{◌≡◌, ◌-◌, length}
use Rattle.std.specs.List.{find, list_any, range_with_len}
use Rattle.cm_model.specs.Array.{nth_or_nil}
use Rattle.cm_model.specs.Found.{same_tag}
use Rattle.cm_array.proofs.finding.router_of.Given as goal

abbrev pub invariant-loop-c : goal.invariant-loop-c
invariant-loop-c l =
    find (λ c. list_any (λ m. same_tag m.tag l.tag) (nth_or_nil l.crossing.buffers c))
    (range_with_len 0 (length l.crossing.buffers))
    ≡ find (λ c. list_any (λ m. same_tag m.tag l.tag) (nth_or_nil l.crossing.buffers c))
    (range_with_len l.c (length l.crossing.buffers - l.c))
