use Rattle.cm_array.proofs.Laying.{chips_cut}
use Rattle.cm_array.proofs.part.lay_chips.Goals as goal

pub returns : goal.returns
returns c = record {
  value = chips_cut c.args.first c.args.count c.args.from.now c.args.run.now c.lay.new.self c.requires.here
      c.requires.there c.lay.ensures.value;
}
