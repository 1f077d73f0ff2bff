-- What is read of a source behind bytes that were read: ours.
use Rattle.std.specs.Prelude.{◌≡◌, ◌≢◌, ℕ, ◌-◌, ◌<◌, ◌≤◌, Option, Ok, IfSome, List, ◌++◌, drop, length, take}
use Rattle.std.specs.Io.KnownBytes.{Consumes, IsAtEnd}
use Rattle.cm_image_format.specs.declared.fault.ImageFault.{ImageFault}
use Rattle.cm_image_format.specs.declared.fault.ImageFault.TheVariants.{Memory}
use Rattle.cm_image_format.specs.Whole.{read_shape}
use Rattle.cm_image_load.specs.declared.pieces.SourceFault.{SourceFault}
use Rattle.cm_image_load.specs.declared.pieces.SourceFault.TheVariants.{Image, Read, TooMuch}

-- a source gives at most so many bytes
pub record GivesAtMost (most : ℕ) (old new : Option (List ℕ)) : Type 0 where
  pub bytes : List ℕ
  pub few : length bytes ≤ most
  pub consumed : Consumes old new bytes

-- it gives all that it has, at most so many bytes, of which this holds
pub record GivesRest (most : ℕ) (old new : Option (List ℕ)) (So : List ℕ → Type 0) : Type 0 where
  pub bytes : List ℕ
  pub few : length bytes ≤ most
  pub consumed : Consumes old new bytes
  pub end : IsAtEnd new
  pub so : So bytes

-- why an image is not read of a source: a fault of it is told of all bytes, want of memory at any time
abbrev pub IsStopped : ℕ → Option (List ℕ) → Option (List ℕ) → (ImageFault → List ℕ → Type 0) → SourceFault → Type 0
IsStopped most old new Wrong Read = GivesAtMost most old new
IsStopped most old new Wrong TooMuch = IfSome old (λ bytes. most < length bytes)
IsStopped most old new Wrong (Image fault) =
    GivesAtMost most old new × (fault ≢ Memory → GivesRest most old new (Wrong fault))

-- the bytes of a list from a place up to another
abbrev pub between : ℕ → ℕ → List ℕ → List ℕ
between from to bytes = take (to - from) (drop from bytes)

-- the dimension and the room of bytes are those of all that begin so
abbrev pub ShapesGoOn : Type 0
ShapesGoOn = (bytes more : List ℕ) (shape : ℕ × ℕ) → read_shape bytes ≡ Ok shape → read_shape (bytes ++ more) ≡ Ok shape
