use Rattle.std.proofs.Common.{◌∙◌}
use Rattle.cm_news.proofs.Banding.{band_of_all}
use Rattle.cm_news.proofs.row.incoming_band.Goals as goal

pub returns-then-planes-power_of_two : goal.returns-then-planes-power_of_two
returns-then-planes-power_of_two c = record {
  value = band_of_all c.args.dims c.args.dir c.args.planes.now c.args.edge.now c.incoming_row.new.out
      (c.if-planes-power_of_two.true ∙ c.power_of_two.ensures.value) c.incoming_row.ensures.value;
}
