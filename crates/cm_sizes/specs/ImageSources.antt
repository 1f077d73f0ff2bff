-- The machine of an image that a source has. Ours.
use Rattle.std.specs.Prelude.{◌≡◌, ℕ, Option, Result, Ok, Err, List}
use Rattle.cm_image_load.specs.declared.pieces.SourceFault.TheVariants as source
use Rattle.cm_image_load.specs.Pieces.{GivesRest, IsStopped}
use Rattle.cm_sizes.specs.declared.opening.OpenFault.{OpenFault}
use Rattle.cm_sizes.specs.declared.opening.OpenFault.TheVariants.{Image, Room}
use Rattle.cm_sizes.specs.declared.opening.OpenSourceFault.{OpenSourceFault}
use Rattle.cm_sizes.specs.declared.opening.OpenSourceFault.TheVariants as unopened
use Rattle.cm_sizes.specs.Opening.{image_opened}

-- the most bytes of an image's file
abbrev pub IMAGE_LIMIT : ℕ
IMAGE_LIMIT = 134217728

-- why no machine comes of a source: a fault of the image is told of all its bytes, of which this says what is wrong
abbrev pub IsRefusedAs : (OpenFault → List ℕ → Type 0) → ℕ → Option (List ℕ) → Option (List ℕ) → OpenSourceFault
    → Type 0
IsRefusedAs Wrong most old new (unopened.Source fault) = IsStopped most old new (λ own. Wrong (Image own)) fault
IsRefusedAs Wrong most old new unopened.Room = GivesRest most old new (Wrong Room)

-- why the bytes of a source, at most so many, are no image of a machine of the programs' own
abbrev pub IsUnopenedSource : ℕ → Option (List ℕ) → Option (List ℕ) → OpenSourceFault → Type 0
IsUnopenedSource most old new fault = IsRefusedAs (λ own image. image_opened image ≡ Err own) most old new fault

-- a fault of an image that is held, as one of a source
abbrev pub of_open : OpenFault → OpenSourceFault
of_open (Image fault) = unopened.Source (source.Image fault)
of_open Room = unopened.Room

-- what comes of an image that is held, told as of a source
abbrev pub opened_of_source : {M : Type 0} → Result M OpenFault → Result M OpenSourceFault
opened_of_source (Ok machine) = Ok machine
opened_of_source (Err fault) = Err (of_open fault)
