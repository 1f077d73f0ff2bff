use Rattle.std.proofs.Common.{arith}
use Rattle.cm_image_dump.proofs.Dumping.{flags_none, flags_more}
use Rattle.cm_image_dump.proofs.dumps.push_flags.Goals as goal

pub loop-f-init : goal.loop-f-init
loop-f-init c = record {
  text = flags_none c.args.chip.now c.args.text.now.items;
  capacity = omega arith;
  grows = omega arith;
}

pub loop-f-preserved : goal.loop-f-preserved
loop-f-preserved c = record {
  text = flags_more c.args.chip.now c.args.text.now.items _ _ c.loop-f.f c.flag_plane.result c.loop-f.invariant.text
      c.in_ok-push_u16.ensures.ok c.flag_plane.ensures.value;
  capacity = omega (arith, c.loop-f.invariant.capacity, c.push_u16.ensures.capacity);
  grows = omega (arith, c.loop-f.invariant.grows, c.in_ok-push_u16.ensures.grows);
}
