use Rattle.std.proofs.Common.{◌≡◌, ◌^◌, bit_xor}
use Rattle.cm_model.specs.Each.{tabulate}
use Rattle.cm_model.specs.Array.{nth_or_nil}
use Rattle.cm_model.specs.Wiring.{way_of}
use Rattle.cm_model.specs.Buffers.{sent_across, buffer_after_dimension}
use Rattle.cm_plain.proofs.router.PlainRouter.buffers_after_dimension.Given as goal

abbrev pub invariant-loop-chip : goal.invariant-loop-chip
invariant-loop-chip g l =
    l.buffers.items ≡ tabulate 0 l.chip
    (λ c. buffer_after_dimension (way_of l.self.routing c l.dim) g.row.CAP l.dim (nth_or_nil l.self.buffers c)
    (sent_across l.self.routing g.row.CAP l.dim l.self.buffers (bit_xor c (2 ^ l.dim))))
