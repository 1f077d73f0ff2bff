use Rattle.std.proofs.Common.{◌∙◌}
use Rattle.cm_array.proofs.Banding.{stepped_over_grid}
use Rattle.cm_array.proofs.stepping.step_in_band_over_grid.Goals as goal

pub returns : goal.returns
returns c = record {
  value = stepped_over_grid c.args.dims c.args.nano.now c.args.run.now c.take.new.self c.send.new.sent
      c.incoming_band.new.out c.args.edge.now c.requires.news (c.send.auto.sent ∙ c.requires.sent_count)
      c.send.ensures.value c.incoming_band.ensures.value c.take.ensures.value;
}
