use Rattle.std.proofs.Common.{◌≡◌, ℕ, ◌<◌, false, get_or}
use Rattle.lab_figures.specs.PictureReading.{is_space}
use Rattle.lab_figures.proofs.picture_reading.word_len.Given as goal

-- no byte so far is a space
abbrev pub invariant-loop-i : goal.invariant-loop-i
invariant-loop-i l = (k : ℕ) → k < l.i → is_space (get_or l.bytes k 0) ≡ false
