use Rattle.std.proofs.Common.{refl}
use Rattle.std.proofs.lemmas.Str.Ascii.{trim_ascii_is}
use Rattle.lab_plot.specs.Cells.{trimmed}
use Rattle.lab_plot.proofs.cells.trim.Goals as goal

pub returns : goal.returns
unfolding trimmed
returns c = record { value = trim_ascii_is _ _ _ refl c.trim_ascii.ensures.value }
