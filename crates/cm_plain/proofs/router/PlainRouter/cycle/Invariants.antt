use Rattle.std.proofs.Common.{◌≡◌}
use Rattle.cm_model.specs.Buffers.{machine_after_injection}
use Rattle.cm_model.proofs.Cycles.{after_crossings}
use Rattle.cm_plain.proofs.router.PlainRouter.cycle.Given as goal

abbrev pub invariant-loop-dim : goal.invariant-loop-dim
invariant-loop-dim g l =
    l.self ≡ after_crossings g.row.N g.row.CAP (machine_after_injection g.row.N g.row.CAP l.fn.self) l.dim
