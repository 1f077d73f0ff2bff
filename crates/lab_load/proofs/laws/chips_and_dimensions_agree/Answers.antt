use Rattle.std.proofs.Common.{true, ◌-◌, ◌^◌, replicate, refl, sym, ◌∙◌, arith}
use Rattle.std.proofs.lemmas.List.{length-replicate}
use Rattle.lab_counts.specs.Crossings.{no_crossings}
use Rattle.lab_counts.specs.Counts.{nothing_counted}
use Rattle.lab_counts.proofs.Together.{none_together}
use Rattle.lab_load.specs.Loaded.{unloaded, after_cycles, untold}
use Rattle.lab_load.proofs.ByChip.{counted_together}
use Rattle.lab_load.proofs.laws.chips_and_dimensions_agree.Goals as goal

pub returns : goal.returns
returns c = λ cap load routing skip cycles few. counted_together cap load
    (untold (after_cycles cap load (unloaded load.dims routing) skip)) (nothing_counted true)
    (replicate (2 ^ load.dims) no_crossings) (cycles - skip) refl few
    (omega (arith, length-replicate (2 ^ load.dims) no_crossings))
    (none_together (2 ^ load.dims) ∙ sym (none_together 12))
