use Rattle.cm_slots.proofs.Views.{new_is_blank}
use Rattle.cm_slots.proofs.tile.Tile.new.Goals as goal

pub returns-clause-blank : goal.returns-clause-blank
returns-clause-blank c = new_is_blank
