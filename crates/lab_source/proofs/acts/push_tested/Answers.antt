use Rattle.std.proofs.Common.{◌≡◌, ◌+◌, arith}
use Rattle.cm_language.specs.Acts.{nano, clear_flag}
use Rattle.cm_macros.proofs.Lists.{pushed_none, pushed_more}
use Rattle.lab_source.proofs.Pushing.{one_before}
use Rattle.lab_source.proofs.acts.push_tested.Goals as goal

pub loop-i-init : goal.loop-i-init
loop-i-init c = pushed_none _ _

pub loop-i-preserved : goal.loop-i-preserved
loop-i-preserved c =
    pushed_more c.push.new.self.items c.loop-i.acts.items c.push-in-loop-i.new.self.items c.loop-i.i
    (λ k. nano c.args.context.now (c.args.s.at + k) (c.args.s.at + k) c.args.flag c.args.flag 0xf0 0xfa)
    c.test_bit.result c.loop-i.invariant c.in_ok-push-2.ensures.items c.test_bit.ensures.value

pub returns : goal.returns
returns c =
    let whole : c.loop-i.i ≡ c.args.s.len = omega arith in
    record {
      ok = one_before c.args.acts.now.items c.push.new.self.items c.loop-i.acts.items c.clear_flag.result
          (clear_flag c.args.context.now c.args.flag) c.loop-i.i c.args.s.len
          (λ k. nano c.args.context.now (c.args.s.at + k) (c.args.s.at + k) c.args.flag c.args.flag 0xf0 0xfa)
          c.in_ok-push.ensures.items c.clear_flag.ensures c.loop-i.invariant whole;
    }
