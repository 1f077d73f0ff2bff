use Rattle.lab_data.proofs.DotPlaces.{dots_are_places}
use Rattle.lab_data.proofs.picture_laws.dots_are_places.Goals as goal

pub returns : goal.returns
returns c = dots_are_places
