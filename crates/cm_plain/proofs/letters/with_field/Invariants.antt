use Rattle.std.proofs.Common.{◌≡◌, ◌++◌, take}
use Rattle.cm_model.specs.Letters.{bits_of}
use Rattle.cm_plain.proofs.letters.with_field.Given as goal

abbrev pub invariant-loop-place : goal.invariant-loop-place
invariant-loop-place l = l.made.items ≡ take l.at l.bits ++ bits_of l.place l.number
