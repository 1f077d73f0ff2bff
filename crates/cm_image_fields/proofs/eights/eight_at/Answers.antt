use Rattle.std.proofs.Common.{◌+◌, ◌-◌, refl, arith}
use Rattle.cm_image_fields.proofs.Turning.{eight_read, words_read, loaded}
use Rattle.cm_image_fields.proofs.eights.eight_at.Goals as goal

pub returns : goal.returns
returns c = record {
  value = eight_read c.args.bytes.now c.args.i (c.args.i + 16 - c.args.i) (omega arith) c.requires.within
      c.type_inv.bytes;
  words = words_read (loaded c.args.bytes.now c.args.i (c.args.i + 16 - c.args.i));
  eight = refl;
}
