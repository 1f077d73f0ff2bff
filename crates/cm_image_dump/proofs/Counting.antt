-- How many planes of each chip are listed, one address more at a time.
use Rattle.std.proofs.Common.{◌≡◌, ℕ, zero, suc, ◌+◌, ◌<◌, ◌≤◌, ◌≢◌, ◌==◌, Bool, true, false, List, length, get_or}
use Rattle.std.proofs.Common.{replicate, refl, sym, ap, ◌∙◌, ⊎_elim, if◌then◌else◌, arith}
use Rattle.std.proofs.lemmas.Bool.{cases_lt}
use Rattle.std.proofs.lemmas.Simd.{length-replicate}
use Rattle.std.proofs.lemmas.List.{get_or-replicate}
use Rattle.cm_model.specs.Processor.{Processor, memory_bit}
use Rattle.cm_model.specs.Chip.{IsPlane, processor_at, plane_number}
use Rattle.cm_model.specs.Array.{Chips, chip_at}
use Rattle.cm_model.proofs.Values.{plane_number-is}
use Rattle.cm_image_format.specs.Whole.{memory_plane_of}
use Rattle.cm_image_dump.specs.Planes.{AreCounted, planes_below}
use Rattle.cm_image_dump.proofs.Dumping.{planes_none, counted_more}
use Rattle.cm_image_dump.proofs.Longest.{few_planes}

-- the planes below an address are counted, and so are no more than there are addresses
pub record AreSoFar (count : ℕ) (chips : Chips) (at : ℕ) (counts : List ℕ) : Type 0 where
  pub counted : AreCounted count chips at counts
  pub few : (c : ℕ) → c < count → get_or counts c 0 ≤ at

pub none_counted : (count : ℕ) (chips : Chips) (counts : List ℕ) → counts ≡ replicate count 0
    → AreSoFar count chips 0 counts
none_counted count chips counts is = record {
  counted = record {
    long = ap length is ∙ length-replicate count 0;
    each = λ c h. zero_at c h ∙ planes_none (chip_at chips c);
  };
  few = λ c h. omega (arith, zero_at c h);
} where
  zero_at : (c : ℕ) → c < count → get_or counts c 0 ≡ 0
  zero_at c h = ap (λ (ns : List ℕ). get_or ns c 0) is ∙ get_or-replicate count c 0 0 h

one_at_most : (b : Bool) → (if b then 0 else 1) ≤ 1
one_at_most true = omega arith
one_at_most false = omega arith

pub row_counted : (count at : ℕ) (chips : Chips) (counts new : List ℕ) → AreSoFar count chips at counts
    → length new ≡ count
    → ((c : ℕ) → c < count
    → get_or new c 0 ≡ get_or counts c 0 + (if memory_plane_of (chip_at chips c) at == 0 then 0 else 1))
    → AreSoFar count chips (at + 1) new
row_counted count at chips counts new before long more = record {
  counted = record {
    long = long;
    each = λ c h. more c h
        ∙ counted_more (chip_at chips c) at (get_or counts c 0)
        (if memory_plane_of (chip_at chips c) at == 0 then 0 else 1) (memory_plane_of (chip_at chips c) at)
        (before.counted.each c h) refl refl;
  };
  few = λ c h. omega (arith, more c h, before.few c h, one_at_most (memory_plane_of (chip_at chips c) at == 0));
}

-- the plane of an address at which all processors have 0
pub no_plane : (chip : List Processor) (address at : ℕ) → IsPlane 0 (λ p. memory_bit (processor_at chip p) address)
    → address ≡ at → memory_plane_of chip at ≡ 0
no_plane chip address at is same =
    sym (plane_number-is 0 (λ p. memory_bit (processor_at chip p) address) (omega arith) is
    ∙ ap (λ (n : ℕ). plane_number (λ p. memory_bit (processor_at chip p) n)) same)

-- where as many planes are listed as there are addresses, none is 0
pub all_listed : (chip : List Processor) (n : ℕ) → length (planes_below chip n) ≡ n
    → (a : ℕ) → a < n → memory_plane_of chip a ≢ 0
all_listed chip zero all a h is = absurd (omega (arith, h))
all_listed chip (suc n) all a h is =
    let one : suc n ≡ n + 1 = omega arith in
    let more : ℕ = if memory_plane_of chip n == 0 then 0 else 1 in
    let count : length (planes_below chip n) + more ≡ suc n =
    counted_more chip n (length (planes_below chip n)) more (memory_plane_of chip n) refl refl refl
    ∙ ap (λ (k : ℕ). length (planes_below chip k)) (sym one) ∙ all in
    let few : length (planes_below chip n) ≤ n = few_planes chip n in
    let most : more ≤ 1 = one_at_most (memory_plane_of chip n == 0) in
    ⊎_elim
    (λ (l : a < n). all_listed chip n (omega (arith, count, few, most)) a l is)
    (λ (l : n ≤ a). let last : a ≡ n = omega (arith, h, l) in
    let none : more ≡ 0 = ap (λ (k : ℕ). if memory_plane_of chip k == 0 then 0 else 1) (sym last)
    ∙ ap (λ (k : ℕ). if k == 0 then 0 else 1) is in
    omega (arith, count, few, none))
    (cases_lt a n)
