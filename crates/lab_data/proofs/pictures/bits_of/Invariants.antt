use Rattle.std.proofs.Common.{◌≡◌, ◌-◌}
use Rattle.lab_data.specs.Pictures.{bits_from, depth_of_greatest}
use Rattle.lab_data.proofs.pictures.bits_of.Given as goal

-- no length so far is that of its numbers
abbrev pub invariant-loop-len : goal.invariant-loop-len
invariant-loop-len l = bits_from l.greatest l.len (17 - l.len) ≡ depth_of_greatest l.greatest
