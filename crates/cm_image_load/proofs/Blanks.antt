-- A blank chip is 35 zero bytes of an image: reading them changes nothing.
use Rattle.std.proofs.Common.{◌≡◌, ℕ, zero, suc, ◌+◌, ◌*◌, ◌==◌, ◌<◌, ◌^◌, not, false, List, [], ◌∷◌, ◌++◌, Bool, true}
use Rattle.std.proofs.Common.{◌||◌, nat_lt, Ok, length, replicate, refl, sym, ap, ◌∙◌, arith}
use Rattle.std.proofs.lemmas.Bool.{le-ltb, le-leb}
use Rattle.std.specs.Int.{w8, w16, byte_len}
use Rattle.cm_model.specs.Machine.{Machine}
use Rattle.cm_image_format.specs.Image.{ChipImage, flag_part, flags_part, memory_part, messages_part, chip_part}
use Rattle.cm_image_format.specs.Reading.{many, made, number_at}
use Rattle.cm_image_load.specs.Chips.{with_chip_image, IsBlankFrom}
use Rattle.cm_image_load.proofs.Building.{chip_built, flags_none}

-- no flag, no plane and no message
abbrev nothing_had : ChipImage
nothing_had = record { flags = replicate 16 0; memory = []; messages = [] }

zero_word : (rest : List ℕ) → number_at w16 (0 ∷ 0 ∷ rest) ≡ Ok (0, rest)
unfolding number_at
zero_word rest =
    let enough : nat_lt (length (0 ∷ 0 ∷ rest)) (byte_len w16) ≡ false = le-ltb _ _ (omega arith) in
    rw enough refl

zero_byte : (rest : List ℕ) → number_at w8 (0 ∷ rest) ≡ Ok (0, rest)
unfolding number_at
zero_byte rest =
    let enough : nat_lt (length (0 ∷ rest)) (byte_len w8) ≡ false = le-ltb _ _ (omega arith) in
    rw enough refl

or_true : (b : Bool) → (b || true) ≡ true
or_true true = refl
or_true false = refl

zero_flag : (f : ℕ) (rest : List ℕ) → flag_part f (0 ∷ 0 ∷ rest) ≡ Ok (0, rest)
zero_flag f rest = rw (zero_word rest, or_true (not (f == 8))) refl

zero_planes : (count f : ℕ) (rest : List ℕ)
    → many (λ f plane. f + 1) flag_part count f (replicate (count * 2) 0 ++ rest) ≡ Ok (replicate count 0, rest)
unfolding many
zero_planes zero f rest = refl
zero_planes (suc count) f rest =
    let more : suc count * 2 ≡ suc (suc (count * 2)) = omega arith in
    let split : replicate {A = ℕ} (suc count * 2) 0 ≡ 0 ∷ 0 ∷ replicate (count * 2) 0 =
    ap (λ (k : ℕ). replicate k 0) more in
    rw (split, zero_flag f (replicate (count * 2) 0 ++ rest), zero_planes count (f + 1) rest) refl

zeros_read : (n cap clock : ℕ) (rest : List ℕ) → chip_part n cap clock (replicate 35 0 ++ rest) ≡ Ok (nothing_had, rest)
unfolding chip_part many
zeros_read n cap clock rest =
    let flags : flags_part (replicate 35 0 ++ rest) ≡ Ok (replicate 16 0, 0 ∷ 0 ∷ 0 ∷ rest) =
    zero_planes 16 0 (0 ∷ 0 ∷ 0 ∷ rest) in
    let memory : memory_part (0 ∷ 0 ∷ 0 ∷ rest) ≡ Ok ([], 0 ∷ rest) = rw (zero_word (0 ∷ rest)) refl in
    let messages : messages_part n cap clock (0 ∷ rest) ≡ Ok ([], rest) =
    rw (zero_byte rest, le-leb 0 cap (omega arith)) refl in
    rw (flags, memory, messages) refl

-- a machine has a blank chip already, where nothing was put in
pub blank_chip_read : (n cap clock c : ℕ) (m : Machine) (bytes rest : List ℕ) → c < 2 ^ n → IsBlankFrom n c m
    → bytes ≡ replicate 35 0 ++ rest → made (with_chip_image c m) (chip_part n cap clock) bytes ≡ Ok (m, rest)
blank_chip_read n cap clock c m bytes rest h blank is =
    let same : with_chip_image c m nothing_had ≡ m =
    sym (chip_built n c m nothing_had h blank) ∙ sym (flags_none n c m [] h blank) in
    rw (is, zeros_read n cap clock rest) (ap (λ (z : Machine). Ok (z, rest)) same)
