use Rattle.std.proofs.Common.{◌+◌, refl, arith}
use Rattle.cm_language.specs.Acts.{nano}
use Rattle.cm_macros.proofs.Lists.{pushed_none, pushed_more}
use Rattle.cm_macros.proofs.pushes.push_bits.Goals as goal

pub loop-i-init : goal.loop-i-init
loop-i-init c = record { items = pushed_none _ _; len = omega arith; capacity = omega arith }

pub loop-i-preserved : goal.loop-i-preserved
loop-i-preserved c = record {
  items = pushed_more c.args.list.now.items c.loop-i.list.items c.push.new.list.items c.loop-i.i
      (λ k. nano c.args.context.now (c.args.x.at + k) (c.args.y.at + k) c.args.read c.args.write
      c.args.tables.memory c.args.tables.flag)
      c.nano.result c.loop-i.invariant.items c.push.ensures.items
      (rw (c.nano.ensures, c.address.ensures, c.address-in-loop-i.ensures) refl);
  len = omega arith;
  capacity = omega arith;
}
