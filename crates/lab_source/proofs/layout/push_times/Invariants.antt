use Rattle.std.proofs.Common.{◌≡◌, ◌++◌}
use Rattle.lab_source.specs.Layout.{times}
use Rattle.lab_source.proofs.layout.push_times.Given as goal

abbrev pub invariant-loop-round : goal.invariant-loop-round
invariant-loop-round l = l.order.items ≡ l.initial.order.items ++ times l._round l.places
