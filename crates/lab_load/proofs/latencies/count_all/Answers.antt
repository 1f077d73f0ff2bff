use Rattle.std.proofs.Common.{ℕ, List, length, set, slice_index, refl, ap, ◌∙◌, arith}
use Rattle.lab_counts.specs.Crossings.{capped_sum}
use Rattle.lab_load.proofs.Histograms.{none_took, took_more}
use Rattle.lab_load.proofs.latencies.count_all.Goals as goal

pub loop-latency-init : goal.loop-latency-init
loop-latency-init c = c.requires.none ∙ none_took (length c.args.counts.now)

pub loop-latency-preserved : goal.loop-latency-preserved
loop-latency-preserved c =
    let latencies = c.args.latencies.now in
    let i : ℕ = c.loop-latency.latency-index in
    let x : ℕ = slice_index latencies i in
    c.count_one.ensures.value
    ∙ (ap (λ (ns : List ℕ). set ns x (capped_sum (slice_index ns x) 1)) c.loop-latency.invariant
    ∙ took_more latencies (length c.args.counts.now) i x (omega arith) (omega arith) refl)
