use Rattle.std.proofs.Common.{refl}
use Rattle.lab_fresh.specs.Draws.{draw_of}
use Rattle.lab_fresh.proofs.fresh_laws.draws_are_published_ones.Goals as goal

pub returns : goal.returns
unfolding draw_of
returns c = record { first = refl; second = refl; third = refl; fourth = refl; fifth = refl; of_0 = refl }
