-- The laws over images.
use Rattle.std.proofs.Common.{◌≡◌, ℕ, Bool, true, false, List, [], ◌∷◌, ◌++◌, None, Result, Ok, Err, refl, sym, ap, ◌∙◌}
use Rattle.std.proofs.Common.{subst, if◌then◌else◌}
use Rattle.std.proofs.lemmas.List.{append-nil}
use Rattle.cm_model.specs.Machine.{Machine}
use Rattle.cm_model.specs.Unlogged.{has_tag_twice}
use Rattle.cm_model.proofs.Unlogged.{tags_stand_once}
use Rattle.cm_image_format.specs.declared.fault.ImageFault.{ImageFault}
use Rattle.cm_image_format.specs.declared.fault.ImageFault.TheVariants.{TagTwice, Extra}
use Rattle.cm_image_format.specs.Reading.{◌>>=◌, fault_in}
use Rattle.cm_image_format.specs.Whole.{Image, image_of, image_text, text_of, machine_of_image, messages_in, image_part}
use Rattle.cm_image_format.specs.Whole.{ended, read_image, image_fault}
use Rattle.cm_image_format.specs.Laws.{AreBytes, IsStorable, TextsAreRead, OnlyTextsAreRead, TextsAreApart}
use Rattle.cm_image_format.specs.Laws.{TextsHaveNoFault}
use Rattle.cm_image_format.proofs.Forms.{bound, same_ok}
use Rattle.cm_image_format.proofs.Images.{Reads-image}
use Rattle.cm_image_format.proofs.Accounts.{messages_in-image_of}
use Rattle.cm_image_format.proofs.Machines.{machine_of_image-image_of, image_of-machine_of_image, IsImage-image_of}
use Rattle.cm_image_format.proofs.Machines.{IsStorable-machine_of_image}

-- ---- a text is read

ended_well : (image : Image) → has_tag_twice (messages_in image.chips) ≡ false
    → ended image [] ≡ Ok (machine_of_image image)
ended_well image apart = rw apart refl

pub texts_are_read : TextsAreRead
unfolding read_image
texts_are_read n cap machine is =
    let image : Image = image_of n machine in
    let whole : image_part n cap (image_text n cap image) ≡ Ok (image, []) =
    ap (image_part n cap) (sym (append-nil (image_text n cap image)))
    ∙ (Reads-image n cap).back image [] (IsImage-image_of n cap machine is) in
    let apart : has_tag_twice (messages_in image.chips) ≡ false = ap has_tag_twice (messages_in-image_of n machine)
    ∙ tags_stand_once n machine is.unlogged is.whole.tags in
    ap (λ (r : Result (Image × List ℕ) ImageFault). r >>= (λ x. ended x.0 x.1)) whole
    ∙ (ended_well image apart ∙ ap (λ (m : Machine). Ok m) (machine_of_image-image_of n cap machine is))

-- ---- nothing else is read

-- what an end without a fault tells
record EndsWell (image : Image) (rest : List ℕ) (machine : Machine) : Type 0 where
  all : rest ≡ []
  apart : has_tag_twice (messages_in image.chips) ≡ false
  is : machine_of_image image ≡ machine

well : (twice : Bool) (x y : Machine)
    → ◌≡◌ {A = Result Machine ImageFault} (if twice then Err TagTwice else Ok x) (Ok y) → (twice ≡ false) × (x ≡ y)
well true x y is = absurd (cc)
well false x y is = (refl, cc)

badly : (twice : Bool) (y : Machine)
    → ◌≡◌ {A = Result Machine ImageFault} (if twice then Err TagTwice else Err Extra) (Ok y) → ⊥
badly true y is = cc
badly false y is = cc

ends_well : (image : Image) (rest : List ℕ) (machine : Machine) → ended image rest ≡ Ok machine
    → EndsWell image rest machine
ends_well image [] machine is =
    let told = well (has_tag_twice (messages_in image.chips)) (machine_of_image image) machine is in
    record { all = refl; apart = told.0; is = told.1 }
ends_well image (byte ∷ bytes) machine is = absurd (badly (has_tag_twice (messages_in image.chips)) machine is)

pub only_texts_are_read : OnlyTextsAreRead
unfolding read_image
only_texts_are_read n cap bytes machine are is =
    let x = bound (image_part n cap bytes) (λ x. ended x.0 x.1) machine is in
    let told = (Reads-image n cap).only bytes x.0.1 x.0.0 are x.1 in
    let end = ends_well x.0.0 x.0.1 machine x.2 in
    let text : bytes ≡ image_text n cap x.0.0 = told.0
    ∙ (ap (λ (rest : List ℕ). image_text n cap x.0.0 ++ rest) end.all ∙ append-nil (image_text n cap x.0.0)) in
    let same : x.0.0 ≡ image_of n machine = sym (image_of-machine_of_image n cap x.0.0 told.1) ∙ ap (image_of n) end.is in (
      text ∙ ap (image_text n cap) same,
      subst (λ (m : Machine). IsStorable n cap m) end.is (IsStorable-machine_of_image n cap x.0.0 told.1 end.apart),
    )

-- ---- one text each

pub texts_are_apart : TextsAreApart
texts_are_apart n cap left right is also same =
    same_ok left right (sym (texts_are_read n cap left is)
    ∙ (ap (read_image n cap) same ∙ texts_are_read n cap right also))

no_fault : (r : Result Machine ImageFault) → fault_in r ≡ None → (m : Machine) × (r ≡ Ok m)
no_fault (Ok m) is = (m, refl)
no_fault (Err fault) is = absurd (cc)

text_if_no_fault : (n cap : ℕ) (bytes : List ℕ) → AreBytes bytes → image_fault n cap bytes ≡ None
    → (machine : Machine) × (IsStorable n cap machine × (bytes ≡ text_of n cap machine))
text_if_no_fault n cap bytes are none =
    let read = no_fault (read_image n cap bytes) none in
    let told = only_texts_are_read n cap bytes read.0 are read.1 in
    (read.0, (told.1, told.0))

no_fault_if_text : (n cap : ℕ) (bytes : List ℕ)
    → ((machine : Machine) × (IsStorable n cap machine × (bytes ≡ text_of n cap machine)))
    → image_fault n cap bytes ≡ None
no_fault_if_text n cap bytes text = ap fault_in (ap (read_image n cap) text.1.1 ∙ texts_are_read n cap text.0 text.1.0)

pub texts_have_no_fault : TextsHaveNoFault
texts_have_no_fault n cap bytes are = (text_if_no_fault n cap bytes are, no_fault_if_text n cap bytes)
