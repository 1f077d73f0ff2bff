use Rattle.std.proofs.Common.{◌≡◌, ap, ◌∙◌, arith}
use Rattle.cm_language.specs.Acts.{clear_flag}
use Rattle.lab_phrases.specs.Acts.{add_bit}
use Rattle.cm_macros.proofs.Lists.{pushed_none, pushed_more}
use Rattle.lab_source.proofs.Pushing.{one_before}
use Rattle.lab_source.proofs.acts.push_sum.Goals as goal

pub loop-i-init : goal.loop-i-init
loop-i-init c = pushed_none _ _

pub loop-i-preserved : goal.loop-i-preserved
loop-i-preserved c =
    pushed_more c.push.new.self.items c.loop-i.acts.items c.push-in-loop-i.new.self.items c.loop-i.i
    (add_bit c.args.context.now c.args.d c.args.number) c.add_bit.result c.loop-i.invariant
    c.in_ok-push-2.ensures.items c.add_bit.ensures.value

pub returns : goal.returns
returns c =
    let whole : c.loop-i.i ≡ c.args.d.len = omega arith in
    record {
      ok = one_before c.args.acts.now.items c.push.new.self.items c.loop-i.acts.items c.clear_flag.result
          (clear_flag c.args.context.now 7) c.loop-i.i c.args.d.len (add_bit c.args.context.now c.args.d c.args.number)
          c.in_ok-push.ensures.items
          (c.clear_flag.ensures ∙ ap (clear_flag c.args.context.now) c.carry.ensures) c.loop-i.invariant whole;
    }
