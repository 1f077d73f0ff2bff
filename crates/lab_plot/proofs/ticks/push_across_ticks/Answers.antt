use Rattle.lab_plot.specs.Ticks.{across_tick}
use Rattle.lab_plot.proofs.Growing.{next-more}
use Rattle.lab_plot.proofs.ticks.push_across_ticks.Goals as goal

pub loop-k-preserved : goal.loop-k-preserved
loop-k-preserved c =
    next-more (across_tick c.args.axis) c.args.text.now.items c.loop-k.text.items c.push_across_tick.new.text.items c.loop-k.k
    c.loop-k.invariant c.in_ok-push_across_tick.ensures.ok
