use Rattle.std.proofs.Common.{◌+◌}
use Rattle.lab_load.specs.Latencies.{latency_header, latency_line}
use Rattle.lab_load.proofs.Adding.{number_more}
use Rattle.lab_load.proofs.latencies.latency_table.Goals as goal

pub loop-index-preserved : goal.loop-index-preserved
loop-index-preserved c =
    let loads = c.args.loads.now in
    number_more (λ i. latency_line loads (i + 1)) (latency_header loads) c.loop-index.text.items
    c.push_line.new.text.items c.loop-index.index c.loop-index.invariant c.in_ok-push_line.ensures.ok
