use Rattle.lab_plot.specs.Ticks.{cycle_tick}
use Rattle.lab_plot.proofs.Growing.{next-more}
use Rattle.lab_plot.proofs.ticks.push_cycle_ticks.Goals as goal

pub loop-k-preserved : goal.loop-k-preserved
loop-k-preserved c =
    next-more (cycle_tick c.args.axis) c.args.text.now.items c.loop-k.text.items c.push_cycle_tick.new.text.items c.loop-k.k
    c.loop-k.invariant c.in_ok-push_cycle_tick.ensures.ok
