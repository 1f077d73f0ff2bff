use Rattle.std.proofs.Common.{◌≡◌, false, drop}
use Rattle.lab_figures.specs.PictureReading.{behind_blanks}
use Rattle.lab_figures.proofs.picture_reading.behind_blanks.Given as goal

-- what is left gives what all of it gave at the start
abbrev pub invariant-loop-i : goal.invariant-loop-i
invariant-loop-i l = behind_blanks l.in_comment (drop l.i l.bytes) ≡ behind_blanks false l.bytes
