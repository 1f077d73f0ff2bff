-- A front end over the machine of an image. Ours.
use Rattle.std.specs.Prelude.{◌≡◌, ℕ, Bool, false, Option, Result, Ok, Err, List}
use Rattle.std.specs.Io.KnownBytes.{IsAtEnd}
use Rattle.cm_model.specs.Machine.{Machine}
use Rattle.cm_image_format.specs.Whole.{text_of}
use Rattle.cm_session.specs.declared.fault.SessionFault.{SessionFault}
use Rattle.cm_session.specs.Ends.{is_write}
use Rattle.cm_sizes.specs.declared.opening.OpenFault.{OpenFault}
use Rattle.cm_sizes.specs.declared.opening.OpenFault.TheVariants as unopened
use Rattle.cm_array.specs.Sizes.{SizedMachine}
use Rattle.cm_sizes.specs.Opening.{image_opened, IsUnopened}
use Rattle.lab_front.specs.declared.images.FrontFault.{FrontFault}
use Rattle.lab_front.specs.declared.images.FrontFault.TheVariants.{Image, Room, Ended, Memory}
use Rattle.lab_front.specs.Ends.{Ends}

-- why an image is refused
abbrev pub image_refusal : OpenFault → FrontFault
image_refusal (unopened.Image fault) = Image fault
image_refusal unopened.Room = Room

-- all was done and answered, and this is the image of the machine that is left
pub record HasEnded (start : SizedMachine) (before after out_before out_after : Option (List ℕ)) (text : List ℕ) : Type 0 where
  pub machine : Machine
  pub done : Ends start.n start.cap before after start.machine out_before machine out_after (Ok tt)
  pub end : IsAtEnd after
  pub text_is : text ≡ text_of start.n start.cap machine

-- a front end ended before its lines did
pub record HasStopped (start : SizedMachine) (before after out_before out_after : Option (List ℕ)) (fault : SessionFault)
    : Type 0 where
  pub machine : Machine
  pub done : Ends start.n start.cap before after start.machine out_before machine out_after (Err fault)

-- all was done and answered, and no image made
pub record HasNoImage (start : SizedMachine) (before after out_before out_after : Option (List ℕ)) : Type 0 where
  pub machine : Machine
  pub done : Ends start.n start.cap before after start.machine out_before machine out_after (Ok tt)
  pub end : IsAtEnd after

-- it ended by a write
abbrev pub is_front_write : {T : Type 0} → Result T FrontFault → Bool
is_front_write (Ok text) = false
is_front_write (Err (Image fault)) = false
is_front_write (Err Room) = false
is_front_write (Err (Ended fault)) = is_write (Err fault)
is_front_write (Err Memory) = false

-- why there is no image of what a front end left: it ended so, or memory was wanting
abbrev pub HasFailed : SizedMachine → Option (List ℕ) → Option (List ℕ) → Option (List ℕ) → Option (List ℕ)
    → FrontFault → Type 0
HasFailed start before after out_before out_after (Ended fault) = HasStopped start before after out_before out_after fault
HasFailed start before after out_before out_after Memory = HasNoImage start before after out_before out_after
HasFailed start before after out_before out_after _ = ⊥

-- an image is that of a machine with which all was so
pub record IsOfMachine (image : List ℕ) (So : SizedMachine → Type 0) : Type 0 where
  pub start : SizedMachine
  pub opens : image_opened image ≡ Ok start
  pub so : So start

-- no front end began, and nothing was read or written
abbrev pub HasNotBegun : Option (List ℕ) → Option (List ℕ) → Option (List ℕ) → Option (List ℕ) → Type 0
HasNotBegun before after out_before out_after = (after ≡ before) × (out_after ≡ out_before)

-- the same over the machine of an image
abbrev pub EndsImage : List ℕ → Option (List ℕ) → Option (List ℕ) → Option (List ℕ) → Option (List ℕ) → List ℕ
    → Type 0
EndsImage image before after out_before out_after text =
    IsOfMachine image (λ start. HasEnded start before after out_before out_after text)

-- why there is no image: the one that was given is refused for this, or memory was wanting; or a front end ended so
abbrev pub FailsImage : List ℕ → Option (List ℕ) → Option (List ℕ) → Option (List ℕ) → Option (List ℕ) → FrontFault
    → Type 0
FailsImage image before after out_before out_after (Image fault) =
    IsUnopened image (unopened.Image fault) × HasNotBegun before after out_before out_after
FailsImage image before after out_before out_after Room =
    (image_opened image ≡ Err unopened.Room) × HasNotBegun before after out_before out_after
FailsImage image before after out_before out_after (Ended fault) =
    IsOfMachine image (λ start. HasStopped start before after out_before out_after fault)
FailsImage image before after out_before out_after Memory =
    IsOfMachine image (λ start. HasNoImage start before after out_before out_after)
