-- The header of an image: text and reading, both ways.
use Rattle.std.proofs.Common.{◌≡◌, ℕ, ◌<◌, ◌≤◌, ◌^◌, ◌==◌, ◌&&◌, Bool, true, List, ◌++◌, None, refl, ◌⊎◌, inl, inr}
use Rattle.std.proofs.Common.{⊎_elim, arith, nat_lt, nat_le, lit<}
use Rattle.std.specs.Int.{w8, w32, w64}
use Rattle.std.proofs.lemmas.Bool.{and_parts, or_cases, eqb-true, leb-true, ltb-true}
use Rattle.cm_message.specs.Bytes.{number_bytes}
use Rattle.cm_image_format.specs.declared.fault.ImageFault.{ImageFault}
use Rattle.cm_image_format.specs.declared.fault.ImageFault.TheVariants.{Magic, Version, Shape, Value}
use Rattle.cm_image_format.specs.Reading.{must, checked_number, followed, ◌⨾◌}
use Rattle.cm_image_format.specs.Header.{MAGIC, is_version, is_dimension, is_room, is_rule, Head, head_text, shape_part}
use Rattle.cm_image_format.specs.Header.{clock_part, header_part}
use Rattle.cm_image_format.proofs.Numbers.{Reads, Fits8, Fits32, Fits64, number_8, number_32, number_64}
use Rattle.cm_image_format.proofs.Forms.{must_pass, must_hold, Reads-checked_number, Reads-followed, Reads-made}
use Rattle.cm_image_format.proofs.Parts.{Reads-then, below_hold, IsBelow}

-- ---- the first eight bytes

abbrev Five : Type 0
Five = ℕ × (ℕ × (ℕ × (ℕ × ℕ)))

-- the part of a byte that passes a test
abbrev Passes : (ℕ → Bool) → ImageFault → ℕ → Type 0
Passes holds fault k = Fits8 k × (must fault holds k ≡ None)

reads_byte : (holds : ℕ → Bool) (fault : ImageFault)
    → Reads (Passes holds fault) (number_bytes w8) (checked_number w8 (must fault holds))
reads_byte holds fault = Reads-checked_number w8 (must fault holds) Fits8 number_8

-- dimension, room and rule, in an image of this version
abbrev GoodThree : (ℕ → Bool) → (ℕ → Bool) → ℕ → ℕ × (ℕ × ℕ) → Type 0
GoodThree dimension room version p =
    Passes dimension Shape p.0 × (Passes room Shape p.1.0 × Passes (is_rule version) Shape p.1.1)

abbrev three_text : ℕ × (ℕ × ℕ) → List ℕ
three_text p = number_bytes w8 p.0 ++ (number_bytes w8 p.1.0 ++ number_bytes w8 p.1.1)

reads_three : (dimension room : ℕ → Bool) (version : ℕ)
    → Reads (GoodThree dimension room version) three_text
    (checked_number w8 (must Shape dimension) ⨾ checked_number w8 (must Shape room) ⨾ checked_number w8 (must Shape (is_rule version)))
reads_three dimension room version =
    Reads-then (Passes dimension Shape) (λ (p : ℕ × ℕ). Passes room Shape p.0 × Passes (is_rule version) Shape p.1)
    (number_bytes w8) (λ (p : ℕ × ℕ). number_bytes w8 p.0 ++ number_bytes w8 p.1)
    (checked_number w8 (must Shape dimension)) (checked_number w8 (must Shape room) ⨾ checked_number w8 (must Shape (is_rule version)))
    (reads_byte dimension Shape)
    (Reads-then (Passes room Shape) (Passes (is_rule version) Shape) (number_bytes w8) (number_bytes w8)
    (checked_number w8 (must Shape room))
    (checked_number w8 (must Shape (is_rule version))) (reads_byte room Shape) (reads_byte (is_rule version) Shape))

abbrev GoodFive : (ℕ → Bool) → (ℕ → Bool) → Five → Type 0
GoodFive dimension room p =
    (Fits32 p.0 × (must Magic (λ k. k == MAGIC) p.0 ≡ None))
    × (Passes is_version Version p.1.0 × GoodThree dimension room p.1.0 p.1.1)

abbrev five_text : Five → List ℕ
five_text p = number_bytes w32 p.0 ++ (number_bytes w8 p.1.0 ++ three_text p.1.1)

reads_five : (dimension room : ℕ → Bool)
    → Reads (GoodFive dimension room) five_text
    (checked_number w32 (must Magic (λ k. k == MAGIC))
    ⨾ followed (checked_number w8 (must Version is_version)) (λ version.
    checked_number w8 (must Shape dimension) ⨾ checked_number w8 (must Shape room) ⨾ checked_number w8 (must Shape (is_rule version))))
reads_five dimension room =
    Reads-then (λ k. Fits32 k × (must Magic (λ j. j == MAGIC) k ≡ None))
    (λ (p : ℕ × (ℕ × (ℕ × ℕ))). Passes is_version Version p.0 × GoodThree dimension room p.0 p.1)
    (number_bytes w32) (λ (p : ℕ × (ℕ × (ℕ × ℕ))). number_bytes w8 p.0 ++ three_text p.1)
    (checked_number w32 (must Magic (λ k. k == MAGIC)))
    (followed (checked_number w8 (must Version is_version)) (λ version.
    checked_number w8 (must Shape dimension) ⨾ checked_number w8 (must Shape room) ⨾ checked_number w8 (must Shape (is_rule version))))
    (Reads-checked_number w32 (must Magic (λ k. k == MAGIC)) Fits32 number_32)
    (Reads-followed (Passes is_version Version) (GoodThree dimension room) (number_bytes w8) (λ version. three_text)
    (checked_number w8 (must Version is_version))
    (λ version.
    checked_number w8 (must Shape dimension) ⨾ checked_number w8 (must Shape room) ⨾ checked_number w8 (must Shape (is_rule version)))
    (reads_byte is_version Version) (λ version good. reads_three dimension room version))

-- a version is one of two
pub version_cases : (k : ℕ) → is_version k ≡ true → (k ≡ 1) ⊎ (k ≡ 2)
version_cases k is =
    ⊎_elim (λ (one : (k == 1) ≡ true). inl (eqb-true k 1 one)) (λ (two : (k == 2) ≡ true). inr (eqb-true k 2 two))
    (or_cases (k == 1) (k == 2) is)

most_version : (k : ℕ) → is_version k ≡ true → k ≤ 2
most_version k is = ⊎_elim (λ (one : k ≡ 1). omega arith) (λ (two : k ≡ 2). omega arith) (version_cases k is)

-- dimension and room pass their tests, and the rule is one of the version
pub record IsHead (dimension room : ℕ → Bool) (head : Head) : Type 0 where
  pub version : is_version head.version ≡ true
  pub dimension_fits : Fits8 head.dimension
  pub dimension_passes : dimension head.dimension ≡ true
  pub room_fits : Fits8 head.room
  pub room_passes : room head.room ≡ true
  pub rule : is_rule head.version head.rule ≡ true

abbrev to_five : Head → Five
to_five head = (MAGIC, (head.version, (head.dimension, (head.room, head.rule))))

abbrev to_head : Five → Head
to_head p = record { version = p.1.0; dimension = p.1.1.0; room = p.1.1.1.0; rule = p.1.1.1.1 }

five_of_head : (head : Head) → head_text head ≡ five_text (to_five head)
unfolding head_text
five_of_head head = refl

good_five : (dimension room : ℕ → Bool) (head : Head) → IsHead dimension room head
    → GoodFive dimension room (to_five head)
good_five dimension room head is =
    let most : head.version ≤ 2 = most_version head.version is.version in
    let below : head.rule < head.version = ltb-true head.rule head.version is.rule in
    let version : Fits8 head.version = omega arith in
    let rule : Fits8 head.rule = omega arith in (
      (lit< tt, refl),
      (
        (version, must_pass Version (is_version head.version) is.version),
        (
          (is.dimension_fits, must_pass Shape (dimension head.dimension) is.dimension_passes),
          (
            (is.room_fits, must_pass Shape (room head.room) is.room_passes),
            (rule, must_pass Shape (is_rule head.version head.rule) is.rule),
          ),
        ),
      ),
    )

from_five : (dimension room : ℕ → Bool) (p : Five) → GoodFive dimension room p
    → IsHead dimension room (to_head p) × (five_text p ≡ head_text (to_head p))
unfolding head_text
from_five dimension room p good =
    let magic : p.0 ≡ MAGIC = eqb-true p.0 MAGIC (must_hold Magic (p.0 == MAGIC) good.0.1) in (
      record {
        version = must_hold Version (is_version p.1.0) good.1.0.1;
        dimension_fits = good.1.1.0.0;
        dimension_passes = must_hold Shape (dimension p.1.1.0) good.1.1.0.1;
        room_fits = good.1.1.1.0.0;
        room_passes = must_hold Shape (room p.1.1.1.0) good.1.1.1.0.1;
        rule = must_hold Shape (is_rule p.1.0 p.1.1.1.1) good.1.1.1.1.1;
      },
      (λ i. number_bytes w32 (magic i) ++ (number_bytes w8 p.1.0 ++ three_text p.1.1)),
    )

pub Reads-shape : (dimension room : ℕ → Bool)
    → Reads (IsHead dimension room) head_text (shape_part dimension room)
Reads-shape dimension room =
    Reads-made (GoodFive dimension room) (IsHead dimension room) five_text head_text to_head to_five
    (checked_number w32 (must Magic (λ k. k == MAGIC))
    ⨾ followed (checked_number w8 (must Version is_version)) (λ version.
    checked_number w8 (must Shape dimension) ⨾ checked_number w8 (must Shape room) ⨾ checked_number w8 (must Shape (is_rule version))))
    (reads_five dimension room)
    (λ head is. refl) (λ head is. good_five dimension room head is) (λ head is. five_of_head head)
    (λ p good. from_five dimension room p good)

-- ---- the counter behind them

abbrev pub is_n : ℕ → ℕ → Bool
is_n n k = is_dimension k && k == n

abbrev pub is_cap : ℕ → ℕ → Bool
is_cap cap k = is_room k && k == cap

abbrev pub Clock : ℕ → Type 0
Clock k = Fits64 k × IsBelow Value (2 ^ 63) k

abbrev pub IsHeader : ℕ → ℕ → Head × ℕ → Type 0
IsHeader n cap h = IsHead (is_n n) (is_cap cap) h.0 × Clock h.1

abbrev pub header_text : Head × ℕ → List ℕ
header_text h = head_text h.0 ++ number_bytes w64 h.1

pub Reads-header : (n cap : ℕ) → Reads (IsHeader n cap) header_text (header_part n cap)
Reads-header n cap =
    Reads-then (IsHead (is_n n) (is_cap cap)) Clock head_text (number_bytes w64)
    (shape_part (is_n n) (is_cap cap)) clock_part
    (Reads-shape (is_n n) (is_cap cap)) (Reads-checked_number w64 (must Value (λ k. nat_lt k (2 ^ 63))) Fits64 number_64)

-- what the header of an image tells
pub record Told (n cap : ℕ) (h : Head × ℕ) : Type 0 where
  pub is_dim : h.0.dimension ≡ n
  pub is_room : h.0.room ≡ cap
  pub dimension : n ≤ 12
  pub some_room : 1 ≤ cap
  pub most_room : cap ≤ 15
  pub clock : h.1 < 2 ^ 63

pub told : (n cap : ℕ) (h : Head × ℕ) → IsHeader n cap h → Told n cap h
told n cap h good =
    let dims = and_parts (is_dimension h.0.dimension) (h.0.dimension == n) good.0.dimension_passes in
    let rooms = and_parts (is_room h.0.room) (h.0.room == cap) good.0.room_passes in
    let bounds = and_parts (nat_le 1 h.0.room) (nat_le h.0.room 15) rooms.0 in
    let dim : h.0.dimension ≡ n = eqb-true h.0.dimension n dims.1 in
    let room : h.0.room ≡ cap = eqb-true h.0.room cap rooms.1 in
    let below : h.0.dimension ≤ 12 = leb-true h.0.dimension 12 dims.0 in
    let some : 1 ≤ h.0.room = leb-true 1 h.0.room bounds.0 in
    let most : h.0.room ≤ 15 = leb-true h.0.room 15 bounds.1 in
    record {
      is_dim = dim;
      is_room = room;
      dimension = omega arith;
      some_room = omega arith;
      most_room = omega arith;
      clock = below_hold Value (2 ^ 63) h.1 good.1.1;
    }
