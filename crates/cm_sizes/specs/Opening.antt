-- The machine of an image's bytes, or their first fault. Ours.
use Rattle.std.specs.Prelude.{◌≡◌, ◌≢◌, ℕ, true, None, Result, Ok, Err, List, if◌then◌else◌}
use Rattle.cm_model.specs.Machine.{Machine}
use Rattle.cm_image_format.specs.declared.fault.ImageFault.{ImageFault}
use Rattle.cm_image_format.specs.declared.fault.ImageFault.TheVariants.{Memory}
use Rattle.cm_image_format.specs.Whole.{read_shape, read_image, header_fault}
use Rattle.cm_sizes.specs.declared.opening.OpenFault.{OpenFault}
use Rattle.cm_sizes.specs.declared.opening.OpenFault.TheVariants.{Image, Room}
use Rattle.cm_array.specs.Sizes.{SizedMachine}
use Rattle.cm_sizes.specs.Sizes.{is_own_room}

-- the machine of an image of these sizes, or the fault of its bytes
abbrev pub of_read : ℕ → ℕ → Result Machine ImageFault → Result SizedMachine OpenFault
of_read n cap (Ok machine) = Ok (record { n = n; cap = cap; machine = machine })
of_read n cap (Err fault) = Err (Image fault)

-- of an image of this shape: a room that the programs have no machines of is refused before all of it is read
abbrev pub opened_of_shape : List ℕ → Result (ℕ × ℕ) ImageFault → Result SizedMachine OpenFault
opened_of_shape bytes (Ok shape) =
    if is_own_room shape.1 then of_read shape.0 shape.1 (read_image shape.0 shape.1 bytes) else Err Room
opened_of_shape bytes (Err fault) = Err (Image fault)

-- the machine of an image, or its first fault
unfoldable pub image_opened : List ℕ → Result SizedMachine OpenFault
image_opened bytes = opened_of_shape bytes (read_shape bytes)

-- the header of an image has no fault, and its machine is one of the programs' own
pub record HasHeader (image : List ℕ) : Type 0 where
  pub n : ℕ
  pub cap : ℕ
  pub shape : read_shape image ≡ Ok (n, cap)
  pub own : is_own_room cap ≡ true
  pub header : header_fault n cap image ≡ None

-- an image is refused with this fault: it is the image's own, or want of memory, which is told only where the header
-- has no fault
pub record IsUnopened (image : List ℕ) (fault : OpenFault) : Type 0 where
  pub own : fault ≢ Image Memory → image_opened image ≡ Err fault
  pub memory : fault ≡ Image Memory → HasHeader image
