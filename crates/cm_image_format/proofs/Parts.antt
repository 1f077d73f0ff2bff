-- The parts of a chip: a message, a listed plane, flags; and a chip as a whole.
use Rattle.std.proofs.Common.{◌≡◌, ℕ, ◌+◌, ◌<◌, ◌≤◌, ◌^◌, ◌==◌, ◌||◌, not, Bool, true, false, List, ◌++◌, length}
use Rattle.std.proofs.Common.{Option, Some, None, refl, arith, nat_lt, nat_le, if◌then◌else◌}
use Rattle.std.specs.Int.{w8, w16, w32, w64}
use Rattle.std.specs.List.{flat_map}
use Rattle.std.proofs.lemmas.Bool.{ltb-true, ltb-false, lt-ltb, le-ltb, not-true, not_from_false}
use Rattle.cm_model.specs.declared.message.Message.{Message}
use Rattle.cm_model.specs.Keeping.{IsMessage}
use Rattle.cm_message.specs.Bytes.{number_bytes, message_text}
use Rattle.cm_image_format.specs.declared.fault.ImageFault.{ImageFault}
use Rattle.cm_image_format.specs.declared.fault.ImageFault.TheVariants.{Order, Count, Value}
use Rattle.cm_image_format.specs.Reading.{Read, must, checked_number, number_at, ◌⨾◌}
use Rattle.cm_image_format.specs.Image.{Listed, ChipImage, flag_part, address_fault, listed_text, listed_part}
use Rattle.cm_image_format.specs.Image.{memory_part, processor_part, message_part, chip_text, flags_part, messages_part}
use Rattle.cm_image_format.specs.Image.{chip_part}
use Rattle.cm_image_format.specs.Cuts.{chip_number_part}
use Rattle.cm_image_format.proofs.Numbers.{Reads, Fits8, Fits16, Fits32, Fits64, number_8, number_16, number_32}
use Rattle.cm_image_format.proofs.Numbers.{number_64}
use Rattle.cm_image_format.proofs.Forms.{must_pass, must_hold, AllFrom, Reads-checked_number, Reads-followed, Reads-made}
use Rattle.cm_image_format.proofs.Forms.{Reads-many, Reads-counted}

-- one part after another
pub Reads-then : {A B : Type 0} (GA : A → Type 0) (GB : B → Type 0) (ta : A → List ℕ) (tb : B → List ℕ)
    (ra : List ℕ → Read A) (rb : List ℕ → Read B)
    → Reads GA ta ra → Reads GB tb rb
    → Reads (λ (p : A × B). GA p.0 × GB p.1) (λ (p : A × B). ta p.0 ++ tb p.1) (ra ⨾ rb)
Reads-then GA GB ta tb ra rb first second =
    Reads-followed GA (λ a. GB) ta (λ a. tb) ra (λ a. rb) first (λ a good. second)

-- ---- bounds

abbrev pub IsBelow : ImageFault → ℕ → ℕ → Type 0
IsBelow fault most k = must fault (λ j. nat_lt j most) k ≡ None

pub below_pass : (fault : ImageFault) (most k : ℕ) → k < most → IsBelow fault most k
below_pass fault most k h = must_pass fault (nat_lt k most) (lt-ltb k most h)

pub below_hold : (fault : ImageFault) (most k : ℕ) → IsBelow fault most k → k < most
below_hold fault most k h = ltb-true k most (must_hold fault (nat_lt k most) h)

-- ---- a message

-- a message of an image at this count of petit cycles
pub record IsStoredMessage (n clock : ℕ) (m : Message) : Type 0 where
  pub message : IsMessage n m
  pub birth : m.tag.birth < clock

abbrev Fitting : ℕ → ℕ → Type 0
Fitting most k = Fits16 k × IsBelow Value most k

abbrev Sixteenth : ℕ → Type 0
Sixteenth k = Fits8 k × IsBelow Value 16 k

abbrev Born : ℕ → ℕ → Type 0
Born clock k = Fits64 k × IsBelow Value clock k

abbrev Six : Type 0
Six = ℕ × (ℕ × (ℕ × (ℕ × (ℕ × ℕ))))

abbrev ThreePart : ℕ → ℕ → List ℕ → Read (ℕ × (ℕ × ℕ))
ThreePart n clock = chip_number_part n ⨾ processor_part ⨾ checked_number w64 (must Value (λ k. nat_lt k clock))

reads_tag : (n clock : ℕ) → Reads (λ (p : ℕ × (ℕ × ℕ)). Fitting (2 ^ n) p.0 × (Sixteenth p.1.0 × Born clock p.1.1))
    (λ (p : ℕ × (ℕ × ℕ)). number_bytes w16 p.0 ++ (number_bytes w8 p.1.0 ++ number_bytes w64 p.1.1)) (ThreePart n clock)
reads_tag n clock =
    let birth = Reads-checked_number w64 (must Value (λ k. nat_lt k clock)) Fits64 number_64 in
    let proc = Reads-checked_number w8 (must Value (λ k. nat_lt k 16)) Fits8 number_8 in
    let chip = Reads-checked_number w16 (must Value (λ k. nat_lt k (2 ^ n))) Fits16 number_16 in
    Reads-then (Fitting (2 ^ n)) (λ (p : ℕ × ℕ). Sixteenth p.0 × Born clock p.1) (number_bytes w16)
    (λ (p : ℕ × ℕ). number_bytes w8 p.0 ++ number_bytes w64 p.1)
    (chip_number_part n) (processor_part ⨾ checked_number w64 (must Value (λ k. nat_lt k clock))) chip
    (Reads-then Sixteenth (Born clock) (number_bytes w8) (number_bytes w64) processor_part
    (checked_number w64 (must Value (λ k. nat_lt k clock))) proc birth)

abbrev GoodSix : ℕ → ℕ → Six → Type 0
GoodSix n clock p = Fitting (2 ^ n) p.0 × (Sixteenth p.1.0
    × (Fits32 p.1.1.0 × (Fitting (2 ^ n) p.1.1.1.0 × (Sixteenth p.1.1.1.1.0 × Born clock p.1.1.1.1.1))))

abbrev six_text : Six → List ℕ
six_text p = number_bytes w16 p.0 ++ (number_bytes w8 p.1.0
    ++ (number_bytes w32 p.1.1.0 ++ (number_bytes w16 p.1.1.1.0 ++ (number_bytes w8 p.1.1.1.1.0 ++ number_bytes w64 p.1.1.1.1.1))))

abbrev six_part : ℕ → ℕ → List ℕ → Read Six
six_part n clock = chip_number_part n ⨾ processor_part ⨾ number_at w32 ⨾ ThreePart n clock

reads_six : (n clock : ℕ) → Reads (GoodSix n clock) six_text (six_part n clock)
reads_six n clock =
    let proc = Reads-checked_number w8 (must Value (λ k. nat_lt k 16)) Fits8 number_8 in
    let chip = Reads-checked_number w16 (must Value (λ k. nat_lt k (2 ^ n))) Fits16 number_16 in
    Reads-then (Fitting (2 ^ n)) (λ (p : ℕ × (ℕ × (ℕ × (ℕ × ℕ)))). Sixteenth p.0
    × (Fits32 p.1.0 × (Fitting (2 ^ n) p.1.1.0 × (Sixteenth p.1.1.1.0 × Born clock p.1.1.1.1))))
    (number_bytes w16) (λ (p : ℕ × (ℕ × (ℕ × (ℕ × ℕ)))).
    number_bytes w8 p.0
    ++ (number_bytes w32 p.1.0 ++ (number_bytes w16 p.1.1.0 ++ (number_bytes w8 p.1.1.1.0 ++ number_bytes w64 p.1.1.1.1))))
    (chip_number_part n) (processor_part ⨾ number_at w32 ⨾ ThreePart n clock) chip
    (Reads-then Sixteenth
    (λ (p : ℕ × (ℕ × (ℕ × ℕ))). Fits32 p.0 × (Fitting (2 ^ n) p.1.0 × (Sixteenth p.1.1.0 × Born clock p.1.1.1)))
    (number_bytes w8)
    (λ (p : ℕ × (ℕ × (ℕ × ℕ))). number_bytes w32 p.0 ++ (number_bytes w16 p.1.0 ++ (number_bytes w8 p.1.1.0 ++ number_bytes w64 p.1.1.1)))
    processor_part (number_at w32 ⨾ ThreePart n clock) proc
    (Reads-then Fits32 (λ (p : ℕ × (ℕ × ℕ)). Fitting (2 ^ n) p.0 × (Sixteenth p.1.0 × Born clock p.1.1)) (number_bytes w32)
    (λ (p : ℕ × (ℕ × ℕ)). number_bytes w16 p.0 ++ (number_bytes w8 p.1.0 ++ number_bytes w64 p.1.1))
    (number_at w32) (ThreePart n clock) number_32 (reads_tag n clock)))

to_six : (n clock : ℕ) (m : Message) → 2 ^ n ≤ 2 ^ 16 → clock ≤ 2 ^ 64 → IsStoredMessage n clock m
    → GoodSix n clock (m.rel, (m.proc, (m.payload, (m.tag.chip, (m.tag.proc, m.tag.birth)))))
to_six n clock m small late good =
    let is = good.message in
    let rel : Fitting (2 ^ n) m.rel = (omega (arith, is.rel), below_pass Value (2 ^ n) m.rel is.rel) in
    let proc : Sixteenth m.proc = (omega (arith, is.proc), below_pass Value 16 m.proc is.proc) in
    let chip : Fitting (2 ^ n) m.tag.chip = (omega (arith, is.origin), below_pass Value (2 ^ n) m.tag.chip is.origin) in
    let sender : Sixteenth m.tag.proc = (omega (arith, is.sender), below_pass Value 16 m.tag.proc is.sender) in
    let birth : Born clock m.tag.birth = (omega (arith, good.birth), below_pass Value clock m.tag.birth good.birth) in
    (rel, (proc, (is.payload, (chip, (sender, birth)))))

from_six : (n clock : ℕ) (p : Six) → GoodSix n clock p
    → IsStoredMessage n clock (record {
      rel = p.0;
      proc = p.1.0;
      payload = p.1.1.0;
      tag = record { chip = p.1.1.1.0; proc = p.1.1.1.1.0; birth = p.1.1.1.1.1 };
    })
from_six n clock p good = record {
  message = record {
    rel = below_hold Value (2 ^ n) p.0 good.0.1;
    proc = below_hold Value 16 p.1.0 good.1.0.1;
    payload = good.1.1.0;
    origin = below_hold Value (2 ^ n) p.1.1.1.0 good.1.1.1.0.1;
    sender = below_hold Value 16 p.1.1.1.1.0 good.1.1.1.1.0.1;
  };
  birth = below_hold Value clock p.1.1.1.1.1 good.1.1.1.1.1.1;
}

pub Reads-message : (n clock : ℕ) → 2 ^ n ≤ 2 ^ 16 → clock ≤ 2 ^ 64
    → Reads (IsStoredMessage n clock) message_text (message_part n clock)
Reads-message n clock small late =
    Reads-made (GoodSix n clock) (IsStoredMessage n clock) six_text message_text
    (λ (p : Six). record {
      rel = p.0;
      proc = p.1.0;
      payload = p.1.1.0;
      tag = record { chip = p.1.1.1.0; proc = p.1.1.1.1.0; birth = p.1.1.1.1.1 };
    })
    (λ (m : Message). (m.rel, (m.proc, (m.payload, (m.tag.chip, (m.tag.proc, m.tag.birth))))))
    (six_part n clock) (reads_six n clock)
    (λ m good. refl) (λ m good. to_six n clock m small late good) (λ m good. refl)
    (λ p good. (from_six n clock p good, refl))

-- ---- a plane that is listed

-- an address from `least` on, and a plane that is not 0
pub record IsListed (least : ℕ) (x : Listed) : Type 0 where
  pub above : least ≤ x.at
  pub below : x.at < 4096
  pub fits : x.plane < 2 ^ 16
  pub some : (x.plane == 0) ≡ false

-- a check that tells `Value` where b holds, and else `Order` where c holds, tells nothing where neither holds
pub value_pass : (b c : Bool) → b ≡ false → c ≡ false
    → ◌≡◌ {A = Option ImageFault} (if b then Some Value else if c then Some Order else None) None
value_pass b c p q = rw (p, q) refl

-- and where it tells nothing neither holds
pub value_hold : (b c : Bool) → ◌≡◌ {A = Option ImageFault}
    (if b then Some Value else if c then Some Order else None) None → (b ≡ false) × (c ≡ false)
value_hold true c is = absurd (cc)
value_hold false true is = absurd (cc)
value_hold false false is = (refl, refl)

abbrev GoodListing : ℕ → ℕ × ℕ → Type 0
GoodListing least p =
    (Fits16 p.0 × (address_fault least p.0 ≡ None)) × (Fits16 p.1 × (must Order (λ plane. not (plane == 0)) p.1 ≡ None))

to_listing : (least : ℕ) (x : Listed) → IsListed least x → GoodListing least (x.at, x.plane)
to_listing least x good =
    let at : Fits16 x.at = omega (arith, good.below) in
    let address : address_fault least x.at ≡ None = value_pass (nat_lt 4095 x.at) (nat_lt x.at least)
    (le-ltb 4095 x.at (omega (arith, good.below))) (le-ltb x.at least good.above) in
    ((at, address), (good.fits, must_pass Order (not (x.plane == 0)) (not_from_false (x.plane == 0) good.some)))

from_listing : (least : ℕ) (p : ℕ × ℕ) → GoodListing least p → IsListed least (record { at = p.0; plane = p.1 })
from_listing least p good =
    let address = value_hold (nat_lt 4095 p.0) (nat_lt p.0 least) good.0.1 in
    let below : p.0 ≤ 4095 = ltb-false 4095 p.0 address.0 in
    record {
      above = ltb-false p.0 least address.1;
      below = omega (arith, below);
      fits = good.1.0;
      some = not-true (p.1 == 0) (must_hold Order (not (p.1 == 0)) good.1.1);
    }

pub Reads-listed : (least : ℕ) → Reads (IsListed least) listed_text (listed_part least)
Reads-listed least =
    Reads-made (GoodListing least) (IsListed least) (λ (p : ℕ × ℕ). number_bytes w16 p.0 ++ number_bytes w16 p.1) listed_text
    (λ (p : ℕ × ℕ). record { at = p.0; plane = p.1 }) (λ (x : Listed). (x.at, x.plane))
    (checked_number w16 (address_fault least) ⨾ checked_number w16 (must Order (λ plane. not (plane == 0))))
    (Reads-then (λ k. Fits16 k × (address_fault least k ≡ None))
    (λ k. Fits16 k × (must Order (λ plane. not (plane == 0)) k ≡ None)) (number_bytes w16) (number_bytes w16)
    (checked_number w16 (address_fault least)) (checked_number w16 (must Order (λ plane. not (plane == 0))))
    (Reads-checked_number w16 (address_fault least) Fits16 number_16)
    (Reads-checked_number w16 (must Order (λ plane. not (plane == 0))) Fits16 number_16))
    (λ x good. refl) (λ x good. to_listing least x good) (λ x good. refl) (λ p good. (from_listing least p good, refl))

-- ---- a chip

-- the plane of a flag, which for ZERO is 0
abbrev pub IsFlagPlane : ℕ → ℕ → Type 0
IsFlagPlane f plane = Fits16 plane × (must Value (λ plane. not (f == 8) || plane == 0) plane ≡ None)

abbrev pub AreFlags : List ℕ → Type 0
AreFlags flags = (length flags ≡ 16) × AllFrom (λ f plane. f + 1) IsFlagPlane 0 flags

abbrev pub IsMemory : List Listed → Type 0
IsMemory memory = (Fits16 (length memory) × (must Count (λ k. nat_le k 4096) (length memory) ≡ None))
    × AllFrom (λ least x. x.at + 1) IsListed 0 memory

abbrev pub AreMessages : ℕ → ℕ → ℕ → List Message → Type 0
AreMessages n cap clock messages = (Fits8 (length messages) × (must Count (λ k. nat_le k cap) (length messages) ≡ None))
    × AllFrom (λ i m. i) (λ i. IsStoredMessage n clock) 0 messages

pub record IsChipImage (n cap clock : ℕ) (image : ChipImage) : Type 0 where
  pub flags : AreFlags image.flags
  pub memory : IsMemory image.memory
  pub messages : AreMessages n cap clock image.messages

Reads-flags : Reads AreFlags (flat_map (number_bytes w16)) flags_part
Reads-flags = Reads-many (λ f plane. f + 1) IsFlagPlane (number_bytes w16) flag_part
    (λ f. Reads-checked_number w16 (must Value (λ plane. not (f == 8) || plane == 0)) Fits16 number_16) 16 0

abbrev memory_text : List Listed → List ℕ
memory_text memory = number_bytes w16 (length memory) ++ flat_map listed_text memory

Reads-memory : Reads IsMemory memory_text memory_part
Reads-memory = Reads-counted w16 (must Count (λ k. nat_le k 4096)) Fits16
    (λ least x. x.at + 1) IsListed listed_text listed_part number_16 Reads-listed 0

abbrev messages_text : List Message → List ℕ
messages_text messages = number_bytes w8 (length messages) ++ flat_map message_text messages

Reads-messages : (n cap clock : ℕ) → 2 ^ n ≤ 2 ^ 16 → clock ≤ 2 ^ 64
    → Reads (AreMessages n cap clock) messages_text (messages_part n cap clock)
Reads-messages n cap clock small late =
    Reads-counted w8 (must Count (λ k. nat_le k cap)) Fits8 (λ i m. i) (λ i. IsStoredMessage n clock) message_text
    (λ i. message_part n clock) number_8 (λ i. Reads-message n clock small late) 0

abbrev Three : Type 0
Three = List ℕ × (List Listed × List Message)

pub Reads-chip : (n cap clock : ℕ) → 2 ^ n ≤ 2 ^ 16 → clock ≤ 2 ^ 64
    → Reads (IsChipImage n cap clock) chip_text (chip_part n cap clock)
unfolding chip_part
Reads-chip n cap clock small late =
    Reads-made (λ (p : Three). AreFlags p.0 × (IsMemory p.1.0 × AreMessages n cap clock p.1.1))
    (IsChipImage n cap clock)
    (λ (p : Three). flat_map (number_bytes w16) p.0 ++ (memory_text p.1.0 ++ messages_text p.1.1)) chip_text
    (λ (p : Three). record { flags = p.0; memory = p.1.0; messages = p.1.1 })
    (λ (image : ChipImage). (image.flags, (image.memory, image.messages)))
    (flags_part ⨾ memory_part ⨾ messages_part n cap clock)
    (Reads-then AreFlags (λ (p : List Listed × List Message). IsMemory p.0 × AreMessages n cap clock p.1)
    (flat_map (number_bytes w16)) (λ (p : List Listed × List Message). memory_text p.0 ++ messages_text p.1)
    flags_part (memory_part ⨾ messages_part n cap clock) Reads-flags
    (Reads-then IsMemory (AreMessages n cap clock) memory_text messages_text memory_part
    (messages_part n cap clock) Reads-memory (Reads-messages n cap clock small late)))
    (λ image good. refl) (λ image good. (good.flags, (good.memory, good.messages))) (λ image good. refl)
    (λ p good. (record { flags = good.0; memory = good.1.0; messages = good.1.1 }, refl))
