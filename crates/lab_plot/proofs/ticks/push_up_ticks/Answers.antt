use Rattle.lab_plot.specs.Ticks.{up_tick}
use Rattle.lab_plot.proofs.Growing.{next-more}
use Rattle.lab_plot.proofs.ticks.push_up_ticks.Goals as goal

pub loop-k-preserved : goal.loop-k-preserved
loop-k-preserved c =
    next-more (up_tick c.args.axis) c.args.text.now.items c.loop-k.text.items c.push_up_tick.new.text.items c.loop-k.k
    c.loop-k.invariant c.in_ok-push_up_tick.ensures.ok
