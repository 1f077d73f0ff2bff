use Rattle.std.proofs.Common.{◌+◌, ◌-◌, arith}
use Rattle.cm_image_load.proofs.Eights.{words_put, words_below}
use Rattle.cm_image_load.proofs.waiting_chips.put_words.Goals as goal

pub returns : goal.returns
returns c = record {
  value = words_put c.args.at (c.args.at + 8 - c.args.at) c.args.list.now c.args.words (omega arith) c.requires.within
      c.fits-words.0;
  below = words_below c.args.at (c.args.at + 8 - c.args.at) c.args.list.now c.args.words (omega arith) c.requires.within
      c.fits-words.0;
}
