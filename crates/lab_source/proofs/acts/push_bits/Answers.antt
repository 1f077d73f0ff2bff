use Rattle.std.proofs.Common.{◌+◌, refl}
use Rattle.cm_language.specs.Acts.{nano}
use Rattle.cm_macros.proofs.Lists.{pushed_none, pushed_more}
use Rattle.lab_source.proofs.acts.push_bits.Goals as goal

pub loop-i-init : goal.loop-i-init
loop-i-init c = pushed_none _ _

pub loop-i-preserved : goal.loop-i-preserved
loop-i-preserved c =
    pushed_more c.args.acts.now.items c.loop-i.acts.items c.push.new.self.items c.loop-i.i
    (λ k. nano c.args.context.now (c.args.d.at + k) (c.args.s.at + k) 8 8 c.args.table 0x00)
    c.nano-next.result c.loop-i.invariant c.in_ok-push.ensures.items
    (rw (c.nano-next.ensures, c.address.ensures, c.address-in-loop-i.ensures, c.zero.ensures, c.zero-in-loop-i.ensures)
    refl)
