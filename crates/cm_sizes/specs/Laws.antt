-- Laws over images of the programs' own machines, each the contract of a function of its name. Ours.
use Rattle.std.specs.Prelude.{◌≡◌, ℕ, ◌≤◌, true, length}
use Rattle.cm_model.specs.Machine.{Machine}
use Rattle.cm_image_format.specs.Whole.{text_of}
use Rattle.cm_image_format.specs.Laws.{HasText}
use Rattle.cm_sizes.specs.Sizes.{is_own_room}
use Rattle.cm_sizes.specs.ImageSources.{IMAGE_LIMIT}

-- the image of a machine of the programs' own is no longer than an image's file may be
abbrev pub ImagesAreShortEnough : Type 0
ImagesAreShortEnough = (n cap : ℕ) (machine : Machine) → HasText n cap machine → is_own_room cap ≡ true
    → length (text_of n cap machine) ≤ IMAGE_LIMIT
