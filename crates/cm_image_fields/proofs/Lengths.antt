-- How many bytes cut wires have in an image.
use Rattle.std.proofs.Common.{◌≡◌, ℕ, ◌+◌, ◌*◌, List, [], ◌∷◌, length, refl, arith}
use Rattle.std.specs.Int.{w16}
use Rattle.std.specs.List.{flat_map}
use Rattle.std.proofs.lemmas.List.{length-append}
use Rattle.cm_bits.specs.Wire.{Wire}
use Rattle.cm_message.specs.Bytes.{number_bytes}
use Rattle.cm_image_format.specs.Cuts.{cut_text, listed_cuts_text}

-- pieces of one length
pub length-flat_map_same : {X : Type 0} (g : X → List ℕ) (k : ℕ) (xs : List X) → ((x : X) → length (g x) ≡ k)
    → length (flat_map g xs) ≡ length xs * k
length-flat_map_same g k [] same = omega arith
length-flat_map_same g k (x ∷ xs) same =
    omega (arith, length-append (g x) (flat_map g xs), same x, length-flat_map_same g k xs same)

pub two : (n : ℕ) → length (number_bytes w16 n) ≡ 2
unfolding number_bytes
two n = refl

cut_three : (w : Wire) → length (cut_text w) ≡ 3
unfolding number_bytes
cut_three w = refl

pub length-listed_cuts : (cuts : List Wire) → length (listed_cuts_text cuts) ≡ 2 + length cuts * 3
length-listed_cuts cuts =
    omega (
      arith,
      length-append (number_bytes w16 (length cuts)) (flat_map cut_text cuts),
      two (length cuts),
      length-flat_map_same cut_text 3 cuts cut_three,
    )
