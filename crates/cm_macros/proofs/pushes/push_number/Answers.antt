use Rattle.std.proofs.Common.{◌+◌, arith}
use Rattle.std.specs.Prelude.{if◌then◌else◌}
use Rattle.cm_bits.specs.Bit.{bit}
use Rattle.cm_language.specs.Acts.{nano}
use Rattle.cm_macros.proofs.Lists.{pushed_none, pushed_more}
use Rattle.cm_macros.proofs.pushes.push_number.Goals as goal

pub loop-i-init : goal.loop-i-init
loop-i-init c = record { items = pushed_none _ _; len = omega arith; capacity = omega arith }

pub loop-i-preserved : goal.loop-i-preserved
loop-i-preserved c = record {
  items = pushed_more c.args.list.now.items c.loop-i.list.items c.push.new.list.items c.loop-i.i
      (λ k. nano c.args.context.now (c.args.d.at + k) (c.args.d.at + k) 8 8
      (if bit c.args.number k then 0xff else 0x00) 0x00) c.number_bit.result
      c.loop-i.invariant.items c.push.ensures.items c.number_bit.ensures;
  len = omega arith;
  capacity = omega arith;
}
