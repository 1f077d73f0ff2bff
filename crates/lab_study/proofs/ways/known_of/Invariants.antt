use Rattle.std.proofs.Common.{◌≡◌, drop}
use Rattle.std.specs.List.{find}
use Rattle.cm_model.specs.Found.{same_tag}
use Rattle.lab_study.proofs.ways.known_of.Given as goal

abbrev pub invariant-loop-trace : goal.invariant-loop-trace
invariant-loop-trace l = find (λ trace. same_tag trace.tag l.tag) l.traces
    ≡ find (λ trace. same_tag trace.tag l.tag) (drop l.trace-index l.traces)
