use Rattle.std.proofs.Common.{◌≡◌}
use Rattle.cm_image_load.specs.Chips.{with_flags}
use Rattle.cm_image_load.proofs.Building.{flags_below}
use Rattle.cm_image_load.proofs.chips.put_flags.Given as goal

-- the flag planes below this one are put
abbrev pub invariant-loop-f : goal.invariant-loop-f
invariant-loop-f g l = l.builder ≡ with_flags l.chip l.initial.builder (flags_below l.f l.flags)
