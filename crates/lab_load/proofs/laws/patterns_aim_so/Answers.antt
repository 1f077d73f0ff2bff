use Rattle.std.proofs.Common.{refl}
use Rattle.std.specs.Int.{reverse_bits_onto}
use Rattle.lab_load.proofs.laws.patterns_aim_so.Goals as goal

pub returns : goal.returns
unfolding reverse_bits_onto
returns c = record { halves = refl; long_half = refl; turned = refl; hot = refl; own = refl; behind = refl }
