use Rattle.std.proofs.Common.{◌≡◌, map}
use Rattle.std.specs.List.{range_with_len}
use Rattle.lab_figures.specs.PictureReading.{raw_dot}
use Rattle.lab_figures.proofs.picture_reading.dots_of.Given as goal

-- so many dots
abbrev pub invariant-loop-i : goal.invariant-loop-i
invariant-loop-i l = l.dots.items ≡ map (raw_dot l.raster l.greatest l.width) (range_with_len 0 l.i)
