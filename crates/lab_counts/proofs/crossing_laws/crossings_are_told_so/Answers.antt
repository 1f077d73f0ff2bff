use Rattle.std.proofs.Common.{refl}
use Rattle.cm_model.specs.Buffers.{leaving_place}
use Rattle.lab_counts.proofs.crossing_laws.crossings_are_told_so.Goals as goal

pub returns : goal.returns
unfolding leaving_place
returns c = record { one_goes = refl; one_is_referred = refl; none_goes = refl; cut = refl; all = refl }
