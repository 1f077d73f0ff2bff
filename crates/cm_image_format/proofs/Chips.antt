-- A chip and what an image has of it, both ways.
use Rattle.std.proofs.Common.{◌≡◌, ℕ, zero, suc, ◌+◌, ◌<◌, ◌≤◌, ◌==◌, ◌||◌, not, Bool, true, false, List, [], ◌∷◌}
use Rattle.std.proofs.Common.{length, get_or, map, refl, sym, ap, ◌∙◌, subst, arith, nat_le, lit<}
use Rattle.std.proofs.lemmas.Bool.{eqb-true, le-leb}
use Rattle.std.proofs.lemmas.List.{length-map, get_or-map}
use Rattle.std.proofs.lemmas.List.Elements.{All-head, All-tail, All-cons, All-nil}
use Rattle.std.proofs.lemmas.List.Sums.{length-filter, count_by-le-length}
use Rattle.std.specs.List.{All, filter, range_with_len}
use Rattle.cm_bits.specs.Bit.{bit}
use Rattle.cm_model.specs.declared.message.Message.{Message}
use Rattle.cm_model.specs.Processor.{Processor, memory_bit, flag}
use Rattle.cm_model.specs.Each.{tabulate}
use Rattle.cm_model.specs.Chip.{processor_at, no_processor}
use Rattle.cm_model.specs.Whole.{IsProcessor, IsChip}
use Rattle.cm_model.proofs.Each.{length-tabulate, get_or-each_below, is_each}
use Rattle.cm_model.proofs.Values.{plane_number-is}
use Rattle.cm_model.proofs.Bits.{bit-zero}
use Rattle.cm_image_format.specs.declared.fault.ImageFault.TheVariants.{Count, Value}
use Rattle.cm_image_format.specs.Image.{Listed, ChipImage}
use Rattle.cm_image_format.specs.Whole.{flag_plane_of, memory_plane_of, image_of_chip, planes_of, plane_at, chip_from}
use Rattle.cm_image_format.proofs.Forms.{must_pass, must_hold, AllFrom}
use Rattle.cm_image_format.proofs.Parts.{IsStoredMessage, IsFlagPlane, AreFlags, IsMemory, AreMessages, IsChipImage}
use Rattle.cm_image_format.proofs.Planes.{bit-plane_number, plane_number-lt, bits_of_planes, entry, is_some}
use Rattle.cm_image_format.proofs.Planes.{plane_at-listing, AllListed-each, plane_at-lt, relisted-each}

-- ---- a chip is made again of its image

memory_again : (chip : List Processor) (buffer : List Message) (p : ℕ) → p < 16
    → length (processor_at chip p).memory ≡ 4096
    → map (λ plane. bit plane p) (planes_of (image_of_chip chip buffer).memory) ≡ (processor_at chip p).memory
unfolding image_of_chip
memory_again chip buffer p h long =
    bits_of_planes (processor_at chip p).memory 4096 p
    (plane_at (filter is_some (tabulate 0 4096 (entry (memory_plane_of chip))))) long
    (λ address below. ap (λ (plane : ℕ). bit plane p) (plane_at-listing (memory_plane_of chip) 4096 address below)
    ∙ bit-plane_number (λ q. memory_bit (processor_at chip q) address) p h)

flags_again : (chip : List Processor) (buffer : List Message) (p : ℕ) → p < 16 → length (processor_at chip p).flags ≡ 16
    → map (λ plane. bit plane p) (image_of_chip chip buffer).flags ≡ (processor_at chip p).flags
unfolding image_of_chip
flags_again chip buffer p h long =
    bits_of_planes (processor_at chip p).flags 16 p (flag_plane_of chip) long
    (λ f below. bit-plane_number (λ q. flag (processor_at chip q) f) p h)

pub chip_from-image_of_chip : (chip : List Processor) (buffer : List Message) → IsChip chip
    → chip_from (image_of_chip chip buffer) ≡ chip
unfolding chip_from
chip_from-image_of_chip chip buffer is =
    sym (is_each no_processor 16
    (λ p. record {
      memory = map (λ plane. bit plane p) (planes_of (image_of_chip chip buffer).memory);
      flags = map (λ plane. bit plane p) (image_of_chip chip buffer).flags;
    }) chip is.count
    (λ p below. λ i. record {
      memory = sym (memory_again chip buffer p below (is.each p below).memory) i;
      flags = sym (flags_again chip buffer p below (is.each p below).flags) i;
    }))

-- ---- an image is had again of its chip

pub processor_at-chip_from : (image : ChipImage) (p : ℕ) → p < 16
    → processor_at (chip_from image) p ≡ record {
      memory = map (λ plane. bit plane p) (planes_of image.memory);
      flags = map (λ plane. bit plane p) image.flags;
    }
unfolding chip_from
processor_at-chip_from image p h =
    get_or-each_below 16 (λ q. record {
      memory = map (λ plane. bit plane q) (planes_of image.memory);
      flags = map (λ plane. bit plane q) image.flags;
    }) p no_processor h

flag-chip_from : (image : ChipImage) (p f : ℕ) → p < 16 → f < length image.flags
    → flag (processor_at (chip_from image) p) f ≡ bit (get_or image.flags f 0) p
flag-chip_from image p f h l = ap (λ (q : Processor). flag q f) (processor_at-chip_from image p h)
    ∙ get_or-map (λ plane. bit plane p) image.flags f 0 false l

memory_bit-chip_from : (image : ChipImage) (p address : ℕ) → p < 16 → address < 4096
    → memory_bit (processor_at (chip_from image) p) address ≡ bit (plane_at image.memory address) p
memory_bit-chip_from image p address h l =
    ap (λ (q : Processor). memory_bit q address) (processor_at-chip_from image p h)
    ∙ (get_or-map (λ plane. bit plane p) (planes_of image.memory) address 0 false
    (omega (arith, length-tabulate 0 4096 (plane_at image.memory)))
    ∙ ap (λ (plane : ℕ). bit plane p) (get_or-each_below 4096 (plane_at image.memory) address 0 l))

-- the flag planes from one on
flag_plane_at : (s : ℕ) (flags : List ℕ) (i : ℕ) → AllFrom (λ f plane. f + 1) IsFlagPlane s flags → i < length flags
    → IsFlagPlane (s + i) (get_or flags i 0)
flag_plane_at s [] i good h = absurd (omega (arith, h))
flag_plane_at s (plane ∷ flags) zero good h = let here : s ≡ s + 0 = omega arith in
    subst (λ (k : ℕ). IsFlagPlane k plane) here good.0
flag_plane_at s (plane ∷ flags) (suc i) good h =
    let there : s + 1 + i ≡ s + suc i = omega arith in
    subst (λ (k : ℕ). IsFlagPlane k (get_or flags i 0)) there (flag_plane_at (s + 1) flags i good.1 (omega (arith, h)))

flags_had : (image : ChipImage) → AreFlags image.flags → tabulate 0 16 (flag_plane_of (chip_from image)) ≡ image.flags
flags_had image good =
    let long : length image.flags ≡ 16 = good.0 in
    sym (is_each 0 16 (flag_plane_of (chip_from image)) image.flags long
    (λ f below. plane_number-is (get_or image.flags f 0) (λ p. flag (processor_at (chip_from image) p) f)
    (flag_plane_at 0 image.flags f good.1 (omega arith)).0
    (λ p h. sym (flag-chip_from image p f h (omega arith)))))

memory_had : (image : ChipImage) → IsMemory image.memory
    → filter is_some (tabulate 0 4096 (entry (memory_plane_of (chip_from image)))) ≡ image.memory
memory_had image good =
    relisted-each (memory_plane_of (chip_from image)) 4096 image.memory refl good.1
    (λ address below. sym (plane_number-is (plane_at image.memory address)
    (λ p. memory_bit (processor_at (chip_from image) p) address) (plane_at-lt image.memory address good.1)
    (λ p h. sym (memory_bit-chip_from image p address h below))))

pub image_of_chip-chip_from : (n cap clock : ℕ) (image : ChipImage) → IsChipImage n cap clock image
    → image_of_chip (chip_from image) image.messages ≡ image
unfolding image_of_chip
image_of_chip-chip_from n cap clock image good = λ i.
    record { flags = flags_had image good.flags i; memory = memory_had image good.memory i; messages = image.messages }

-- ---- a chip has an image

AllFrom-range : (f : ℕ → ℕ) (first count : ℕ) → ((k : ℕ) → first ≤ k → k < first + count → IsFlagPlane k (f k))
    → AllFrom (λ k plane. k + 1) IsFlagPlane first (map f (range_with_len first count))
AllFrom-range f first zero each = tt
AllFrom-range f first (suc count) each = (
  each first (omega arith) (omega arith),
  AllFrom-range f (first + 1) count (λ k h l. each k (omega arith) (omega arith)),
)

AllFrom-each : (f : ℕ → ℕ) (count : ℕ) → ((k : ℕ) → k < count → IsFlagPlane k (f k))
    → AllFrom (λ k plane. k + 1) IsFlagPlane 0 (tabulate 0 count f)
unfolding tabulate
AllFrom-each f count each = AllFrom-range f 0 count (λ k h l. each k (omega arith))

flag_test : (b : Bool) (plane : ℕ) → (b ≡ true → plane ≡ 0) → (not b || plane == 0) ≡ true
flag_test false plane none = refl
flag_test true plane none = ap (λ (k : ℕ). k == 0) (none refl)

zero_plane : (chip : List Processor) → IsChip chip → flag_plane_of chip 8 ≡ 0
zero_plane chip is =
    sym (plane_number-is 0 (λ p. flag (processor_at chip p) 8) (lit< tt) (λ p h. bit-zero p ∙ sym (is.each p h).zero))

AreFlags-chip : (chip : List Processor) → IsChip chip → AreFlags (tabulate 0 16 (flag_plane_of chip))
AreFlags-chip chip is = (
  length-tabulate 0 16 (flag_plane_of chip),
  AllFrom-each (flag_plane_of chip) 16 (λ f below. (
    plane_number-lt (λ p. flag (processor_at chip p) f),
    must_pass Value (not (f == 8) || flag_plane_of chip f == 0)
        (flag_test (f == 8) (flag_plane_of chip f) (λ e. ap (flag_plane_of chip) (eqb-true f 8 e)
        ∙ zero_plane chip is)),
  )),
)

IsMemory-chip : (chip : List Processor) → IsMemory (filter is_some (tabulate 0 4096 (entry (memory_plane_of chip))))
IsMemory-chip chip =
    let all : List Listed = tabulate 0 4096 (entry (memory_plane_of chip)) in
    let most : length (filter is_some all) ≤ 4096 = omega (
      arith,
      length-filter is_some all,
      count_by-le-length is_some all,
      length-tabulate 0 4096 (entry (memory_plane_of chip)),
    ) in (
      (
        omega arith,
        must_pass Count (nat_le (length (filter is_some all)) 4096) (le-leb (length (filter is_some all)) 4096 most),
      ),
      AllListed-each (memory_plane_of chip) 4096 refl
          (λ address. plane_number-lt (λ p. memory_bit (processor_at chip p) address)),
    )

-- what holds of each holds at any number
pub AllFrom-All : {A : Type 0} (P : A → Type 0) (s : ℕ) (xs : List A) → All P xs → AllFrom (λ i x. i) (λ i. P) s xs
AllFrom-All P s [] all = tt
AllFrom-All P s (x ∷ xs) all = (All-head P x xs all, AllFrom-All P s xs (All-tail P x xs all))

pub All-AllFrom : {A : Type 0} (P : A → Type 0) (s : ℕ) (xs : List A) → AllFrom (λ i x. i) (λ i. P) s xs → All P xs
All-AllFrom P s [] all = All-nil P
All-AllFrom P s (x ∷ xs) all = All-cons P x xs all.0 (All-AllFrom P s xs all.1)

pub AreMessages-buffer : (n cap clock : ℕ) (buffer : List Message) → cap ≤ 15 → length buffer ≤ cap
    → All (IsStoredMessage n clock) buffer → AreMessages n cap clock buffer
AreMessages-buffer n cap clock buffer most room all = (
  (omega arith, must_pass Count (nat_le (length buffer) cap) (le-leb (length buffer) cap room)),
  AllFrom-All (IsStoredMessage n clock) 0 buffer all,
)

pub IsChipImage-image_of_chip : (n cap clock : ℕ) (chip : List Processor) (buffer : List Message) → IsChip chip
    → AreMessages n cap clock buffer → IsChipImage n cap clock (image_of_chip chip buffer)
unfolding image_of_chip
IsChipImage-image_of_chip n cap clock chip buffer is messages =
    record { flags = AreFlags-chip chip is; memory = IsMemory-chip chip; messages = messages }

-- ---- what is made of an image is a chip

pub IsChip-chip_from : (image : ChipImage) → AreFlags image.flags → IsChip (chip_from image)
unfolding chip_from
IsChip-chip_from image good = record {
  count = length-tabulate 0 16 (λ q. record {
    memory = map (λ plane. bit plane q) (planes_of image.memory);
    flags = map (λ plane. bit plane q) image.flags;
  });
  each = λ p h. subst (λ (q : Processor). IsProcessor q) (sym (processor_at-chip_from image p h)) (record {
    memory = length-map (planes_of image.memory) (λ plane. bit plane p)
        ∙ length-tabulate 0 4096 (plane_at image.memory);
    flags = length-map image.flags (λ plane. bit plane p) ∙ good.0;
    zero =
        let eighth = flag_plane_at 0 image.flags 8 good.1 (omega (arith, good.0)) in
        let none : get_or image.flags 8 0 ≡ 0 =
        eqb-true (get_or image.flags 8 0) 0 (must_hold Value (get_or image.flags 8 0 == 0) eighth.1) in
        get_or-map (λ plane. bit plane p) image.flags 8 0 false (omega (arith, good.0))
        ∙ (ap (λ (plane : ℕ). bit plane p) none ∙ bit-zero p);
  });
}
