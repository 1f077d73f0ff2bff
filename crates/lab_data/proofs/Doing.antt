-- What is done with an image.
use Rattle.std.proofs.Common.{◌≡◌, ◌≢◌, ℕ, List, Result, Ok, Err, IfOk, IfErr, sym, ap, ◌∙◌}
use Rattle.cm_image_format.specs.declared.fault.ImageFault.TheVariants as image
use Rattle.cm_sizes.specs.declared.opening.OpenFault.{OpenFault}
use Rattle.cm_sizes.specs.declared.opening.OpenFault.TheVariants as unopened
use Rattle.cm_array.specs.Sizes.{SizedMachine}
use Rattle.cm_sizes.specs.Opening.{image_opened, IsUnopened}
use Rattle.lab_data.specs.declared.lab.Task.{Task}
use Rattle.lab_data.specs.declared.lab.LabFault.{LabFault}
use Rattle.lab_data.specs.declared.lab.LabFault.TheVariants as lab
use Rattle.lab_data.specs.Lab.{work_on, lab_refusal, of_opened, done_with}

-- what holds of the value there is
pub where_ok : {A E : Type 0} (P Q : A → Type 0) (r : Result A E) → ((x : A) → P x → Q x) → IfOk r P → IfOk r Q
where_ok P Q (Ok x) more h = more x h
where_ok P Q (Err e) more h = tt

-- what holds of the fault there is
pub where_err : {A E : Type 0} (P Q : E → Type 0) (r : Result A E) → ((e : E) → P e → Q e) → IfErr r P → IfErr r Q
where_err P Q (Ok x) more h = tt
where_err P Q (Err e) more h = more e h

-- the machine of an image
pub opened_so : (task : Task) (given bytes : List ℕ) (any : SizedMachine) → image_opened bytes ≡ Ok any
    → done_with task given bytes ≡ work_on task given any
unfolding done_with
opened_so task given bytes any is = ap (of_opened task given) is

-- an image that is refused, as the laboratory tells it
pub refused_so : (task : Task) (given bytes : List ℕ) (fault : OpenFault) (told : LabFault) → IsUnopened bytes fault
    → (fault ≡ unopened.Image image.Memory → told ≡ lab.Memory)
    → (fault ≢ unopened.Image image.Memory → told ≡ lab_refusal fault) → told ≢ lab.Memory
    → done_with task given bytes ≡ Err told
unfolding done_with
refused_so task given bytes fault told is same others other =
    let own : fault ≢ unopened.Image image.Memory = λ e. other (same e) in
    ap (of_opened task given) (is.own own) ∙ ap (λ f. Err f) (sym (others own))
