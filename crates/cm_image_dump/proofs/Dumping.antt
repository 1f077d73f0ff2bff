-- What a dump has written so far, one part more at a time.
use Rattle.std.proofs.Common.{◌≡◌, ℕ, zero, suc, ◌+◌, ◌==◌, ◌<◌, ◌≤◌, ◌^◌, not, cond, Bool, true, false, List, []}
use Rattle.std.proofs.Common.{◌∷◌, ◌++◌, length, take, get_or, refl, sym, ap, ◌∙◌, ⊎_elim, arith, append_assoc}
use Rattle.std.proofs.Common.{if◌then◌else◌}
use Rattle.std.specs.Int.{w8, w16, w64}
use Rattle.std.specs.List.{flat_map}
use Rattle.std.proofs.lemmas.Bool.{cases_lt}
use Rattle.std.proofs.lemmas.List.{append-nil, length-append, length_push, get_or_append_left, get_or_push, take_more}
use Rattle.std.proofs.lemmas.List.Concat.{flat_map-append}
use Rattle.std.proofs.lemmas.List.FromFn.{map-range_with_len_more, filter_of_map_range_with_len_more}
use Rattle.cm_model.specs.declared.message.Message.{Message}
use Rattle.cm_model.specs.Each.{tabulate}
use Rattle.cm_model.specs.Processor.{Processor}
use Rattle.cm_model.specs.Array.{Chips, chip_at, nth_or_nil}
use Rattle.cm_model.specs.Machine.{Machine}
use Rattle.cm_message.specs.Bytes.{number_bytes, message_text}
use Rattle.cm_image_format.specs.Header.{head_text}
use Rattle.cm_image_format.specs.Cuts.{head_of, routing_text}
use Rattle.cm_image_format.specs.Image.{Listed, ChipImage, listed_text, chip_text}
use Rattle.cm_image_format.specs.Whole.{flag_plane_of, memory_plane_of, image_of_chip, image_text, text_of}
use Rattle.cm_image_dump.specs.Planes.{AreInUse, flags_text, planes_below, listed_below, plane_listing, listing_at, chips_text}

-- ---- what is made of each number

pub made_zero : {X : Type 0} (g : X → List ℕ) (f : ℕ → X) (text : List ℕ) → text ≡ text ++ flat_map g (tabulate 0 0 f)
unfolding tabulate
made_zero g f text = sym (append-nil text)

pub made_more : {X : Type 0} (g : X → List ℕ) (f : ℕ → X) (first n j : ℕ) → first + n ≡ j
    → flat_map g (tabulate first (n + 1) f) ≡ flat_map g (tabulate first n f) ++ g (f j)
unfolding tabulate
made_more g f first n j is =
    ap (flat_map g) (map-range_with_len_more f first n j is)
    ∙ (flat_map-append g (tabulate first n f) (f j ∷ [])
    ∙ ap (λ xs. flat_map g (tabulate first n f) ++ xs) (append-nil (g (f j))))

-- one part more behind what there was
pub grown : (text front part before after : List ℕ) → before ≡ text ++ front → after ≡ before ++ part
    → after ≡ text ++ (front ++ part)
grown text front part before after is more = more ∙ (ap (λ (xs : List ℕ). xs ++ part) is ∙ append_assoc text front part)

four : (a b c d : List ℕ) → ((a ++ b) ++ c) ++ d ≡ a ++ (b ++ (c ++ d))
four a b c d = simp append_assoc

-- ---- flags

pub flags_none : (chip : List Processor) (text : List ℕ) → text ≡ text ++ flags_text chip 0
unfolding flags_text
flags_none chip text = made_zero (number_bytes w16) (flag_plane_of chip) text

pub flags_more : (chip : List Processor) (text before after : List ℕ) (n plane : ℕ)
    → before ≡ text ++ flags_text chip n → after ≡ before ++ number_bytes w16 plane → plane ≡ flag_plane_of chip n
    → after ≡ text ++ flags_text chip (n + 1)
unfolding flags_text
flags_more chip text before after n plane is more same =
    grown text (flags_text chip n) (number_bytes w16 plane) before after is more
    ∙ ap (λ (xs : List ℕ). text ++ xs) (ap (λ (k : ℕ). flags_text chip n ++ number_bytes w16 k) same
    ∙ sym (made_more (number_bytes w16) (flag_plane_of chip) 0 n n (omega arith)))

-- ---- planes

abbrev plane_entry : List Processor → ℕ → Listed
plane_entry chip address = record { at = address; plane = memory_plane_of chip address }

pub planes_more : (chip : List Processor) (n : ℕ)
    → planes_below chip (n + 1)
    ≡ planes_below chip n ++ cond (not (memory_plane_of chip n == 0)) (plane_entry chip n ∷ []) []
unfolding planes_below tabulate
planes_more chip n = filter_of_map_range_with_len_more (λ (x : Listed). not (x.plane == 0)) (plane_entry chip) 0 n
    n (omega arith)

pub planes_none : (chip : List Processor) → 0 ≡ length (planes_below chip 0)
unfolding planes_below tabulate
planes_none chip = refl

one_counted : (b : Bool) (e : Listed) → length (cond (not b) (e ∷ []) []) ≡ (if b then 0 else 1)
one_counted true e = refl
one_counted false e = refl

pub counted_more : (chip : List Processor) (n count more plane : ℕ) → count ≡ length (planes_below chip n)
    → more ≡ (if plane == 0 then 0 else 1) → plane ≡ memory_plane_of chip n
    → count + more ≡ length (planes_below chip (n + 1))
counted_more chip n count more plane is told same =
    let last : length (cond (not (memory_plane_of chip n == 0)) (plane_entry chip n ∷ []) []) ≡ more =
    one_counted (memory_plane_of chip n == 0) (plane_entry chip n)
    ∙ sym (told ∙ ap (λ (k : ℕ). if k == 0 then 0 else 1) same) in
    omega (
      arith,
      ap length (planes_more chip n),
      length-append (planes_below chip n) (cond (not (memory_plane_of chip n == 0)) (plane_entry chip n ∷ []) []),
    )

one_listed : (b : Bool) (e : Listed)
    → flat_map listed_text (cond (not b) (e ∷ []) []) ≡ (if b then [] else listed_text e)
one_listed true e = refl
one_listed false e = append-nil (listed_text e)

pub listed_step : (chip : List Processor) (n : ℕ)
    → listed_below chip (n + 1) ≡ listed_below chip n ++ plane_listing n (memory_plane_of chip n)
unfolding listed_below
listed_step chip n =
    ap (flat_map listed_text) (planes_more chip n)
    ∙ (flat_map-append listed_text (planes_below chip n)
    (cond (not (memory_plane_of chip n == 0)) (plane_entry chip n ∷ []) [])
    ∙ ap (λ (xs : List ℕ). flat_map listed_text (planes_below chip n) ++ xs)
    (one_listed (memory_plane_of chip n == 0) (plane_entry chip n)))

-- ---- addresses in use

pub none_in_use : (count : ℕ) (chips : Chips) → AreInUse count chips 0 []
unfolding listed_below planes_below tabulate
none_in_use count chips = record { few = omega arith; within = λ i h. absurd (omega (arith, h)); listed = λ c h. refl }

-- an address at which all planes are 0
pub in_use_past : (count at : ℕ) (chips : Chips) (used : List ℕ) → AreInUse count chips at used
    → ((c : ℕ) → c < count → memory_plane_of (chip_at chips c) at ≡ 0) → AreInUse count chips (at + 1) used
in_use_past count at chips used are none = record {
  few = omega (arith, are.few);
  within = λ i h. omega (arith, are.within i h);
  listed = λ c h. listed_step (chip_at chips c) at
      ∙ ap (λ (k : ℕ). listed_below (chip_at chips c) at ++ plane_listing at k) (none c h)
      ∙ append-nil (listed_below (chip_at chips c) at) ∙ are.listed c h;
}

-- and one more that is in use
pub in_use_more : (count at : ℕ) (chips : Chips) (used : List ℕ) → AreInUse count chips at used
    → AreInUse count chips (at + 1) (used ++ at ∷ [])
in_use_more count at chips used are = record {
  few = omega (arith, are.few, length_push used at);
  within = λ i h. ⊎_elim
      (λ (l : i < length used). omega (arith, are.within i l, get_or_append_left used (at ∷ []) 0 i l))
      (λ (l : length used ≤ i). let last : i ≡ length used = omega (arith, h, l, length_push used at) in
      omega (arith, ap (λ (k : ℕ). get_or (used ++ at ∷ []) k 0) last, get_or_push used at 0 (length used) refl))
      (cases_lt i (length used));
  listed = λ c h. listed_step (chip_at chips c) at
      ∙ ap (λ (xs : List ℕ). xs ++ listing_at (chip_at chips c) at) (are.listed c h)
      ∙ sym (flat_map-append (listing_at (chip_at chips c)) used (at ∷ [])
      ∙ ap (λ (xs : List ℕ). flat_map (listing_at (chip_at chips c)) used ++ xs)
      (append-nil (listing_at (chip_at chips c) at)));
}

-- ---- items of a list, as messages

-- what is written of one item more
pub items_more : {X : Type 0} (g : X → List ℕ) (xs : List X) (text before after : List ℕ) (i : ℕ) (x d : X)
    → i < length xs → x ≡ get_or xs i d
    → before ≡ text ++ flat_map g (take i xs) → after ≡ before ++ g x
    → after ≡ text ++ flat_map g (take (i + 1) xs)
items_more {X} g xs text before after i x d h read is more =
    let next : take (i + 1) xs ≡ take i xs ++ x ∷ [] = take_more xs i d h
    ∙ ap (λ (y : X). take i xs ++ y ∷ []) (sym read) in
    grown text (flat_map g (take i xs)) (g x) before after is more
    ∙ ap (λ (ys : List ℕ). text ++ ys) (sym (ap (flat_map g) next
    ∙ (flat_map-append g (take i xs) (x ∷ [])
    ∙ ap (λ (ys : List ℕ). flat_map g (take i xs) ++ ys) (append-nil (g x)))))

-- ---- a chip

pub chip_text-parts : (chip : List Processor) (buffer : List Message)
    → chip_text (image_of_chip chip buffer)
    ≡ flags_text chip 16 ++ ((number_bytes w16 (length (planes_below chip 4096)) ++ listed_below chip 4096)
    ++ (number_bytes w8 (length buffer) ++ flat_map message_text buffer))
unfolding image_of_chip flags_text planes_below listed_below
chip_text-parts chip buffer = refl

five : (t f n p l m : List ℕ) → (((t ++ (f ++ n)) ++ p) ++ l) ++ m ≡ t ++ (f ++ ((n ++ p) ++ (l ++ m)))
five t f n p l m = simp append_assoc

-- the five parts of a chip, one behind another
pub chip_written : (chip : List Processor) (buffer : List Message) (text a b c d e : List ℕ) (count : ℕ)
    → a ≡ text ++ flags_text chip 16 → b ≡ a ++ number_bytes w16 count → count ≡ length (planes_below chip 4096)
    → c ≡ b ++ listed_below chip 4096 → d ≡ c ++ number_bytes w8 (length buffer)
    → e ≡ d ++ flat_map message_text buffer → e ≡ text ++ chip_text (image_of_chip chip buffer)
chip_written chip buffer text a b c d e count first second is third fourth fifth =
    let planes : List ℕ = listed_below chip 4096 in
    let last : List ℕ = flat_map message_text buffer in
    let told : b ≡ text ++ (flags_text chip 16 ++ number_bytes w16 (length (planes_below chip 4096))) =
    grown text (flags_text chip 16) (number_bytes w16 count) a b first second
    ∙ ap (λ (k : ℕ). text ++ (flags_text chip 16 ++ number_bytes w16 k)) is in
    fifth
    ∙ (ap (λ (xs : List ℕ). xs ++ last) (fourth
    ∙ ap (λ (xs : List ℕ). xs ++ number_bytes w8 (length buffer)) (third ∙ ap (λ (xs : List ℕ). xs ++ planes) told))
    ∙ (five text (flags_text chip 16) (number_bytes w16 (length (planes_below chip 4096))) planes
    (number_bytes w8 (length buffer)) last ∙ ap (λ (xs : List ℕ). text ++ xs) (sym (chip_text-parts chip buffer))))

-- ---- all chips

abbrev pub image_at : Machine → ℕ → ChipImage
image_at machine c = image_of_chip (chip_at machine.chips c) (nth_or_nil machine.buffers c)

pub chips_none : (machine : Machine) (first : ℕ) (text : List ℕ) → text ≡ text ++ chips_text machine first 0
unfolding tabulate
chips_none machine first text = sym (append-nil text)

pub chips_more : (machine : Machine) (text before after : List ℕ) (first n c : ℕ) → first + n ≡ c
    → before ≡ text ++ chips_text machine first n → after ≡ before ++ chip_text (image_at machine c)
    → after ≡ text ++ chips_text machine first (n + 1)
chips_more machine text before after first n c number is more =
    grown text (chips_text machine first n) (chip_text (image_at machine c)) before after is more
    ∙ ap (λ (xs : List ℕ). text ++ xs) (sym (made_more chip_text (image_at machine) first n c number))

-- the chips behind those that were written
pub chips_joined : (machine : Machine) (first n : ℕ)
    → chips_text machine 0 (first + n) ≡ chips_text machine 0 first ++ chips_text machine first n
chips_joined machine first zero =
    let none : first + 0 ≡ first = omega arith in
    ap (λ (k : ℕ). chips_text machine 0 k) none ∙ chips_none machine first (chips_text machine 0 first)
chips_joined machine first (suc n) =
    let front : List ℕ = chips_text machine 0 first in
    let last : List ℕ = chip_text (image_at machine (first + n)) in
    let one_more : suc n ≡ n + 1 = omega arith in
    let all : first + suc n ≡ first + n + 1 = omega arith in
    ap (λ (k : ℕ). chips_text machine 0 k) all
    ∙ (made_more chip_text (image_at machine) 0 (first + n) (first + n) (omega arith)
    ∙ (ap (λ (xs : List ℕ). xs ++ last) (chips_joined machine first n)
    ∙ (append_assoc front (chips_text machine first n) last
    ∙ (ap (λ (xs : List ℕ). front ++ xs) (sym (made_more chip_text (image_at machine) first n (first + n) refl))
    ∙ ap (λ (k : ℕ). front ++ chips_text machine first k) (sym one_more)))))

pub tile_more : (machine : Machine) (text before after : List ℕ) (first n : ℕ)
    → before ≡ text ++ chips_text machine 0 first → after ≡ before ++ chips_text machine first n
    → after ≡ text ++ chips_text machine 0 (first + n)
tile_more machine text before after first n is more =
    grown text (chips_text machine 0 first) (chips_text machine first n) before after is more
    ∙ ap (λ (xs : List ℕ). text ++ xs) (sym (chips_joined machine first n))

-- header, counter, cuts and chips, one behind another
pub all_written : (n cap clock : ℕ) (machine : Machine) (none first header routed text : List ℕ) → none ≡ []
    → first ≡ none ++ head_text (head_of n cap machine.routing) → header ≡ first ++ number_bytes w64 clock
    → clock ≡ machine.clock → routed ≡ header ++ routing_text machine.routing
    → text ≡ routed ++ chips_text machine 0 (2 ^ n) → text ≡ text_of n cap machine
unfolding image_text
all_written n cap clock machine none first header routed text empty head time is cuts all =
    let front : List ℕ = head_text (head_of n cap machine.routing) in
    let counter : List ℕ = number_bytes w64 machine.clock in
    let wires : List ℕ = routing_text machine.routing in
    let chips : List ℕ = chips_text machine 0 (2 ^ n) in
    let begins : header ≡ front ++ counter = time
    ∙ (λ i. (head ∙ ap (λ (xs : List ℕ). xs ++ front) empty) i ++ number_bytes w64 (is i)) in
    all ∙ (ap (λ (xs : List ℕ). xs ++ chips) (cuts ∙ ap (λ (xs : List ℕ). xs ++ wires) begins)
    ∙ four front counter wires chips)
