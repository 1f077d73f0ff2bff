use Rattle.lab_phrases.specs.Acts.{keep_bit}
use Rattle.cm_macros.proofs.Lists.{pushed_none, pushed_more}
use Rattle.lab_source.proofs.acts.push_kept.Goals as goal

pub loop-i-init : goal.loop-i-init
loop-i-init c = pushed_none _ _

pub loop-i-preserved : goal.loop-i-preserved
loop-i-preserved c =
    pushed_more c.args.acts.now.items c.loop-i.acts.items c.push.new.self.items c.loop-i.i
    (keep_bit c.args.context.now c.args.d c.args.flag) c.keep_bit.result c.loop-i.invariant c.in_ok-push.ensures.items
    c.keep_bit.ensures.value
