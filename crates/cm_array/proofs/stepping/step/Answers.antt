use Rattle.std.proofs.Common.{[], length}
use Rattle.cm_array.proofs.Banding.{all_rows, all_stepped}
use Rattle.cm_array.proofs.stepping.step.Goals as goal

pub step_in_band-requires-clause-rows : goal.step_in_band-requires-clause-rows
step_in_band-requires-clause-rows c = all_rows c.args.dims (length c.args.run.now) c.requires.count

pub returns : goal.returns
returns c = record {
  value = all_stepped c.args.dims c.args.nano.now [] c.args.run.now c.step_in_band.new.run c.requires.count
      c.step_in_band.ensures.value;
}
