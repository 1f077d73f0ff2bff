-- Why there is no world of a run, in the order in which it is looked at. Ours.
use Rattle.std.specs.Prelude.{ℕ, ◌-◌, ◌/◌, nat_lt, List, Option, Some, None, if◌then◌else◌}
use Rattle.cm_model.specs.declared.act.Act.{Act}
use Rattle.cm_array.specs.Acts.{is_late, is_long}
use Rattle.cm_weave.specs.declared.first.WorldFault.{WorldFault}
use Rattle.cm_weave.specs.declared.first.WorldFault.TheVariants.{Long, Clock, Split}

-- of a machine of n dimensions that stands at this count of petit cycles, to be cut into 2 ^ k blocks
abbrev pub world_fault : ℕ → ℕ → ℕ → List Act → Option WorldFault
world_fault n k clock acts =
    if is_long acts then Some Long
    else if is_late clock acts then Some Clock
    else if nat_lt (n - n / 2) k then Some Split else None
