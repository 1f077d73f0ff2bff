use Rattle.lab_plot.specs.Lines.{curve_text}
use Rattle.lab_plot.proofs.Growing.{next-more}
use Rattle.lab_plot.proofs.lines.push_curves.Goals as goal

pub loop-k-preserved : goal.loop-k-preserved
loop-k-preserved c =
    next-more (curve_text c.args.frame.now c.args.header.now c.args.points.now c.args.panel)
    c.args.text.now.items c.loop-k.text.items c.push_curve.new.text.items c.loop-k.k
    c.loop-k.invariant c.in_ok-push_curve.ensures.ok
