use Rattle.lab_data.proofs.DotPlaces.{pictures_read_back}
use Rattle.lab_data.proofs.picture_laws.pictures_read_back.Goals as goal

pub returns : goal.returns
returns c = pictures_read_back
