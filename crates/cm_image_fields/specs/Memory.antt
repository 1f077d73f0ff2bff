-- A memory plane that an image lists, put into a machine: ours.
use Rattle.std.specs.Prelude.{ℕ}
use Rattle.cm_model.specs.Machine.{Machine}
use Rattle.cm_array.specs.Pokes.{machine_with_plane}
use Rattle.cm_image_format.specs.Image.{Listed}

-- the machine with the plane that is listed in a chip
abbrev pub with_listed : ℕ → Machine → Listed → Machine
with_listed c machine x = machine_with_plane machine c x.at x.plane
