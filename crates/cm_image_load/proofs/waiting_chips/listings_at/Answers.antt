use Rattle.std.proofs.Common.{◌≡◌, ◌+◌, ◌*◌, refl, arith}
use Rattle.cm_image_load.proofs.Eights.{one_of_two, other_words}
use Rattle.cm_image_load.proofs.waiting_chips.listings_at.Goals as goal

pub returns : goal.returns
returns c = record {
  address = λ j h. one_of_two c.eight_at.result c.eight_at-2.result c.args.bytes.now c.args.i 0 c.eight_at.ensures.eight
      (omega arith) c.eight_at.ensures.value c.eight_at-2.ensures.value j _ h (omega arith);
  plane = λ j h. let end : c.args.i + 4 * (j + 1) ≡ c.args.i + 4 * j + 2 + 2 = omega arith in
      rw end (one_of_two c.eight_at.result c.eight_at-2.result c.args.bytes.now c.args.i 1 c.eight_at.ensures.eight
      (omega arith) c.eight_at.ensures.value c.eight_at-2.ensures.value j (c.args.i + 4 * j + 2) h (omega arith));
  words = other_words c.eight_at.result c.eight_at-2.result 0 c.eight_at.ensures.eight (omega arith)
      c.eight_at.ensures.words c.eight_at-2.ensures.words;
  eight = (refl, refl);
}
