-- The messages of an image are those that stand in its machine.
use Rattle.std.proofs.Common.{◌≡◌, ℕ, zero, suc, ◌+◌, ◌^◌, List, ◌++◌, refl, ◌∙◌}
use Rattle.std.proofs.lemmas.List.Folds.{flat_map-map}
use Rattle.std.specs.List.{flat_map, range_with_len}
use Rattle.cm_model.specs.Each.{tabulate}
use Rattle.cm_model.specs.Array.{chip_at, nth_or_nil}
use Rattle.cm_model.specs.Machine.{Machine}
use Rattle.cm_model.proofs.Unlogged.{standing}
use Rattle.cm_image_format.specs.Image.{ChipImage}
use Rattle.cm_image_format.specs.Whole.{image_of_chip, image_of, messages_in}

messages-image_of_chip : (machine : Machine) (c : ℕ)
    → (image_of_chip (chip_at machine.chips c) (nth_or_nil machine.buffers c)).messages ≡ nth_or_nil machine.buffers c
unfolding image_of_chip
messages-image_of_chip machine c = refl

gathered_same : {X : Type 0} (f g : ℕ → List X) (first count : ℕ) → ((c : ℕ) → f c ≡ g c)
    → flat_map f (range_with_len first count) ≡ flat_map g (range_with_len first count)
gathered_same f g first zero same = refl
gathered_same f g first (suc count) same = λ i. same first i ++ gathered_same f g (first + 1) count same i

pub messages_in-image_of : (n : ℕ) (machine : Machine) → messages_in (image_of n machine).chips ≡ standing n machine
unfolding tabulate
messages_in-image_of n machine =
    flat_map-map (λ (chip : ChipImage). chip.messages)
    (λ c. image_of_chip (chip_at machine.chips c) (nth_or_nil machine.buffers c)) (range_with_len 0 (2 ^ n))
    ∙ gathered_same (λ c. (image_of_chip (chip_at machine.chips c) (nth_or_nil machine.buffers c)).messages)
    (λ c. nth_or_nil machine.buffers c) 0 (2 ^ n) (messages-image_of_chip machine)
