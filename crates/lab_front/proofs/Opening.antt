-- A front end over the machine of an image that is opened.
use Rattle.std.proofs.Common.{◌≡◌, ℕ, Option, Result, Ok, Err, Vec, List, refl, sym, subst}
use Rattle.std.specs.Prelude.{IfOk, IfErr}
use Rattle.std.specs.declared.alloc.Global.{Global}
use Rattle.cm_sizes.specs.declared.opening.OpenFault.{OpenFault}
use Rattle.cm_sizes.specs.declared.opening.OpenFault.TheVariants as unopened
use Rattle.cm_array.specs.Sizes.{SizedMachine}
use Rattle.cm_sizes.specs.Opening.{image_opened, IsUnopened}
use Rattle.lab_front.specs.declared.images.FrontFault.{FrontFault}
use Rattle.lab_front.specs.declared.images.FrontFault.TheVariants.{Image, Room, Ended, Memory}
use Rattle.lab_front.specs.Images.{image_refusal, HasEnded, HasFailed, EndsImage, FailsImage}

-- it is refused
pub unopened_so : (image : List ℕ) (before out_before : Option (List ℕ)) (fault : OpenFault) (told : FrontFault)
    → told ≡ image_refusal fault → IsUnopened image fault → FailsImage image before before out_before out_before told
unopened_so image before out_before (unopened.Image fault) told same refused =
    subst (FailsImage image before before out_before out_before) (sym same) (refused, (refl, refl))
unopened_so image before out_before unopened.Room told same refused =
    subst (FailsImage image before before out_before out_before) (sym same) (refused.own (λ other. absurd (cc)), (refl, refl))

-- it is opened
pub ended_so : (image : List ℕ) (start : SizedMachine) (before after out_before out_after : Option (List ℕ))
    (r : Result (Vec ℕ Global) FrontFault) → image_opened image ≡ Ok start
    → IfOk r (λ text. HasEnded start before after out_before out_after text.items)
    → IfOk r (λ text. EndsImage image before after out_before out_after text.items)
ended_so image start before after out_before out_after (Ok text) opens ended =
    record { start = start; opens = opens; so = ended }
ended_so image start before after out_before out_after (Err fault) opens ended = tt

pub failed_so : (image : List ℕ) (start : SizedMachine) (before after out_before out_after : Option (List ℕ))
    (r : Result (Vec ℕ Global) FrontFault) → image_opened image ≡ Ok start
    → IfErr r (HasFailed start before after out_before out_after) → IfErr r (FailsImage image before after out_before out_after)
failed_so image start before after out_before out_after (Ok text) opens failed = tt
failed_so image start before after out_before out_after (Err (Ended fault)) opens failed =
    record { start = start; opens = opens; so = failed }
failed_so image start before after out_before out_after (Err Memory) opens failed =
    record { start = start; opens = opens; so = failed }
failed_so image start before after out_before out_after (Err (Image fault)) opens failed = absurd failed
failed_so image start before after out_before out_after (Err Room) opens failed = absurd failed
