use Rattle.std.proofs.Common.{◌≡◌, ◌-◌, length, []}
use Rattle.lab_figures.specs.PictureReading.{after_dots}
use Rattle.lab_figures.proofs.picture_reading.read_plain.Given as goal

-- what is left gives what all of it gave at the start
abbrev pub invariant-loop-i : goal.invariant-loop-i
invariant-loop-i l = record {
  counted : length l.dots.items ≡ l.i;
  read : after_dots l.text l.greatest (l.count - l.i) l.dots.items l.rest
      ≡ after_dots l.text l.greatest l.count [] l.bytes;
}
