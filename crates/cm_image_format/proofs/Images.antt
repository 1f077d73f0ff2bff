-- An image as a whole: text and reading, both ways.
use Rattle.std.proofs.Common.{◌≡◌, ℕ, ◌<◌, ◌≤◌, ◌^◌, List, ◌++◌, length, refl, sym, ap, ◌∙◌, arith, append_assoc, lit<}
use Rattle.std.specs.Int.{w64}
use Rattle.std.specs.List.{flat_map}
use Rattle.std.proofs.lemmas.Bool.{and_from, eq-eqb, le-leb}
use Rattle.std.proofs.Math.Nat.{pow-le-pow_right}
use Rattle.cm_model.specs.Wiring.{Routing, IsRouting}
use Rattle.cm_message.specs.Bytes.{number_bytes}
use Rattle.cm_image_format.specs.declared.fault.ImageFault.TheVariants.{Value}
use Rattle.cm_image_format.specs.Reading.{followed, ◌⨾◌, many}
use Rattle.cm_image_format.specs.Header.{Head, head_text, header_part}
use Rattle.cm_image_format.specs.Cuts.{cuts_text, head_of, routing_text, routing_part}
use Rattle.cm_image_format.specs.Image.{ChipImage, chip_text, chip_part}
use Rattle.cm_image_format.specs.Whole.{Image, image_text, image_part}
use Rattle.cm_image_format.proofs.Numbers.{Reads, Fits64}
use Rattle.cm_image_format.proofs.Forms.{AllFrom, Reads-followed, Reads-made, Reads-many}
use Rattle.cm_image_format.proofs.Parts.{Reads-then, below_pass, IsChipImage, Reads-chip}
use Rattle.cm_image_format.proofs.Header.{IsHeader, header_text, Reads-header, told}
use Rattle.cm_image_format.proofs.Cuts.{IsRoutingOf, Reads-routing, routing_told, has_version, has_rule, has_routing}

-- an image of these sizes
pub record IsImage (n cap : ℕ) (image : Image) : Type 0 where
  pub dimension : n ≤ 12
  pub some_room : 1 ≤ cap
  pub most_room : cap ≤ 15
  pub clock : image.clock < 2 ^ 63
  pub routing : IsRouting n image.routing
  pub count : length image.chips ≡ 2 ^ n
  pub each : AllFrom (λ i chip. i) (λ i. IsChipImage n cap image.clock) 0 image.chips

abbrev AreChips : ℕ → ℕ → ℕ → List ChipImage → Type 0
AreChips n cap clock chips = (length chips ≡ 2 ^ n) × AllFrom (λ i chip. i) (λ i. IsChipImage n cap clock) 0 chips

pub small_cube : (n : ℕ) → n ≤ 12 → 2 ^ n ≤ 2 ^ 16
small_cube n h = let most : 2 ^ n ≤ 2 ^ 12 = pow-le-pow_right (lit< tt) h in omega (arith, most)

-- ---- behind the header

abbrev Behind : Type 0
Behind = Routing × List ChipImage

abbrev IsBehind : ℕ → ℕ → Head × ℕ → Behind → Type 0
IsBehind n cap h p = IsRoutingOf n h.0 p.0 × AreChips n cap h.1 p.1

abbrev behind_text : Head × ℕ → Behind → List ℕ
behind_text h p = cuts_text h.0.version p.0.cuts ++ flat_map chip_text p.1

reads_behind : (n cap : ℕ) (h : Head × ℕ) → n ≤ 12 → h.1 < 2 ^ 63
    → Reads (IsBehind n cap h) (behind_text h)
    (routing_part n h.0 ⨾ many (λ i chip. i) (λ i. chip_part n cap h.1) (2 ^ n) 0)
reads_behind n cap h small early =
    Reads-then (IsRoutingOf n h.0) (AreChips n cap h.1) (λ (routing : Routing). cuts_text h.0.version routing.cuts)
    (flat_map chip_text) (routing_part n h.0) (many (λ i chip. i) (λ i. chip_part n cap h.1) (2 ^ n) 0)
    (Reads-routing n h.0)
    (Reads-many (λ i chip. i) (λ i. IsChipImage n cap h.1) chip_text (λ i. chip_part n cap h.1)
    (λ i. Reads-chip n cap h.1 (small_cube n small) (omega (arith, early))) (2 ^ n) 0)

-- ---- the whole

abbrev Whole : Type 0
Whole = (Head × ℕ) × Behind

abbrev IsWhole : ℕ → ℕ → Whole → Type 0
IsWhole n cap p = IsHeader n cap p.0 × IsBehind n cap p.0 p.1

abbrev whole_text : Whole → List ℕ
whole_text p = header_text p.0 ++ behind_text p.0 p.1

-- header, routing and chips of an image, and the image of these
abbrev to_whole : ℕ → ℕ → Image → Whole
to_whole n cap image = ((head_of n cap image.routing, image.clock), (image.routing, image.chips))

abbrev to_image : Whole → Image
to_image p = record { clock = p.0.1; routing = p.1.0; chips = p.1.1 }

good_header : (n cap : ℕ) (image : Image) → IsImage n cap image
    → IsHeader n cap (head_of n cap image.routing, image.clock)
good_header n cap image is =
    let early : Fits64 image.clock = omega (arith, is.clock) in (
      record {
        version = has_version image.routing.rule image.routing.cuts;
        dimension_fits = omega (arith, is.dimension);
        dimension_passes = and_from _ _ (le-leb n 12 is.dimension) (eq-eqb n n refl);
        room_fits = omega (arith, is.most_room);
        room_passes = and_from _ _ (and_from _ _ (le-leb 1 cap is.some_room) (le-leb cap 15 is.most_room))
            (eq-eqb cap cap refl);
        rule = has_rule image.routing.rule image.routing.cuts;
      },
      (early, below_pass Value (2 ^ 63) image.clock is.clock),
    )

text_is : (n cap : ℕ) (image : Image) → image_text n cap image ≡ whole_text (to_whole n cap image)
unfolding image_text
text_is n cap image =
    sym (append_assoc (head_text (head_of n cap image.routing)) (number_bytes w64 image.clock)
    (routing_text image.routing ++ flat_map chip_text image.chips))

from_whole : (n cap : ℕ) (p : Whole) → IsWhole n cap p
    → IsImage n cap (to_image p) × (whole_text p ≡ image_text n cap (to_image p))
from_whole n cap p good =
    let t = told n cap p.0 good.0 in
    let r = routing_told n p.0.0 p.1.0 t.dimension good.0.0.version good.0.0.rule good.1.0 in
    let head : p.0.0 ≡ head_of n cap p.1.0 = λ i. record {
      version = r.version_is i;
      dimension = t.is_dim i;
      room = t.is_room i;
      rule = r.rule_is i;
    } in (
      record {
        dimension = t.dimension;
        some_room = t.some_room;
        most_room = t.most_room;
        clock = t.clock;
        routing = r.is;
        count = good.1.1.0;
        each = good.1.1.1;
      },
      ap (λ (h : Head). whole_text ((h, p.0.1), p.1)) head ∙ sym (text_is n cap (to_image p)),
    )

pub Reads-image : (n cap : ℕ) → Reads (IsImage n cap) (image_text n cap) (image_part n cap)
unfolding image_part
Reads-image n cap =
    Reads-made (IsWhole n cap) (IsImage n cap) whole_text (image_text n cap) to_image (to_whole n cap)
    (followed (header_part n cap) (λ (h : Head × ℕ).
    routing_part n h.0 ⨾ many (λ i chip. i) (λ i. chip_part n cap h.1) (2 ^ n) 0))
    (Reads-followed (IsHeader n cap) (IsBehind n cap) header_text behind_text (header_part n cap)
    (λ (h : Head × ℕ). routing_part n h.0 ⨾ many (λ i chip. i) (λ i. chip_part n cap h.1) (2 ^ n) 0)
    (Reads-header n cap)
    (λ h good. let t = told n cap h good in reads_behind n cap h t.dimension t.clock))
    (λ image is. refl)
    (λ image is. (
      good_header n cap image is,
      (has_routing n cap image.routing is.dimension is.routing, (is.count, is.each)),
    ))
    (λ image is. text_is n cap image)
    (λ p good. from_whole n cap p good)
