-- What calls of a builder come to: a chip of its planes, a buffer of its messages, a machine of its chips.
use Rattle.std.proofs.Common.{◌≡◌, ℕ, zero, suc, ◌+◌, ◌-◌, ◌<◌, ◌==◌, ◌^◌, false, List, [], ◌∷◌, ◌++◌, length}
use Rattle.std.proofs.Common.{get_or, set, take, map, fold, replicate, refl, sym, ap, ◌∙◌, ⊎_elim, arith, append_assoc}
use Rattle.std.proofs.lemmas.Bool.{cases_eq, cond-true, cond-false, eq-eqb, ne_eqb}
use Rattle.std.proofs.lemmas.List.{append-nil, length-map, get_or-map, length-set, length-replicate, get_or-replicate}
use Rattle.std.proofs.lemmas.List.{get_or-set_same, get_or-set_other, set-set, set-get_or, map-set, set_at, take_all}
use Rattle.std.proofs.lemmas.List.{take_more, take_more_set, length-take-le}
use Rattle.cm_bits.specs.Bit.{bit}
use Rattle.cm_model.specs.declared.message.Message.{Message}
use Rattle.cm_model.specs.declared.message.Event.{Event}
use Rattle.cm_model.specs.Processor.{Processor, blank_processor}
use Rattle.cm_model.specs.Chip.{each_processor, processor_at, no_processor, blank_chip}
use Rattle.cm_model.specs.Array.{chip_at, nth_or_nil, each_chip}
use Rattle.cm_model.specs.Wiring.{Routing}
use Rattle.cm_model.specs.Machine.{Machine, blank_machine}
use Rattle.cm_model.proofs.Each.{length-tabulate, get_or-each_below, same_each_below, is_each}
use Rattle.cm_model.proofs.Bits.{bit-zero}
use Rattle.cm_element.specs.Wide.{with_memory_plane, with_flag_plane}
use Rattle.cm_element.specs.Planes.{processor_in, chip_of}
use Rattle.cm_image_format.specs.Image.{Listed, ChipImage}
use Rattle.cm_image_format.specs.Whole.{plane_or, plane_at, planes_of, chip_from, Image, machine_of_image}
use Rattle.cm_array.specs.Pokes.{machine_with_flag_plane}
use Rattle.cm_image_fields.specs.Memory.{with_listed}
use Rattle.cm_image_load.specs.Chips.{with_chip, with_flags, with_message, with_chip_image, IsBlankFrom}
use Rattle.cm_image_load.specs.Chips.{blank_at, put_chip, put_plane}

-- ---- a chip of planes

pub with_memory_plane-chip_of : (memory flags : List ℕ) (address plane : ℕ)
    → with_memory_plane (chip_of memory flags) address (bit plane) ≡ chip_of (set memory address plane) flags
unfolding with_memory_plane chip_of
with_memory_plane-chip_of memory flags address plane =
    same_each_below no_processor 16
    (λ p. record (processor_at (each_processor (processor_in memory flags)) p) {
      memory =
          set (processor_at (each_processor (processor_in memory flags)) p).memory address (bit plane p);
    })
    (processor_in (set memory address plane) flags)
    (λ p h.
    ap (λ (q : Processor). record q { memory = set q.memory address (bit plane p) })
    (get_or-each_below 16 (processor_in memory flags) p no_processor h)
    ∙ (λ i. record {
      memory = sym (map-set (λ (w : ℕ). bit w p) memory address plane) i;
      flags =
          map (λ (w : ℕ). bit w p) flags;
    }))

pub with_flag_plane-chip_of : (memory flags : List ℕ) (number plane : ℕ)
    → with_flag_plane (chip_of memory flags) number (bit plane) ≡ chip_of memory (set flags number plane)
unfolding with_flag_plane chip_of
with_flag_plane-chip_of memory flags number plane =
    same_each_below no_processor 16
    (λ p. record (processor_at (each_processor (processor_in memory flags)) p) {
      flags =
          set (processor_at (each_processor (processor_in memory flags)) p).flags number (bit plane p);
    })
    (processor_in memory (set flags number plane))
    (λ p h.
    ap (λ (q : Processor). record q { flags = set q.flags number (bit plane p) })
    (get_or-each_below 16 (processor_in memory flags) p no_processor h)
    ∙ (λ i. record {
      memory = map (λ (w : ℕ). bit w p) memory;
      flags =
          sym (map-set (λ (w : ℕ). bit w p) flags number plane) i;
    }))

zeros : (n p : ℕ) → map (λ plane. bit plane p) (replicate n 0) ≡ replicate n false
zeros zero p = refl
zeros (suc n) p = λ i. bit-zero p i ∷ zeros n p i

pub blank_chip-chip_of : blank_chip ≡ chip_of (replicate 4096 0) (replicate 16 0)
unfolding blank_chip chip_of blank_processor
blank_chip-chip_of =
    same_each_below no_processor 16 (λ p. blank_processor) (processor_in (replicate 4096 0) (replicate 16 0))
    (λ p h. λ i. record { memory = sym (zeros 4096 p) i; flags = sym (zeros 16 p) i })

-- ---- planes that are put where they are listed

length-put : (planes : List ℕ) (listed : List Listed) → length (fold put_plane planes listed) ≡ length planes
length-put planes [] = refl
length-put planes (x ∷ xs) = length-put (set planes x.at x.plane) xs ∙ length-set planes x.at x.plane

put_at : (planes : List ℕ) (x : Listed) (a : ℕ) → a < length planes
    → get_or (set planes x.at x.plane) a 0 ≡ plane_or a (get_or planes a 0) x
put_at planes x a h =
    ⊎_elim
    (λ (s : x.at ≡ a). ap (λ (k : ℕ). get_or (set planes k x.plane) a 0) s
    ∙ (get_or-set_same planes a x.plane 0 h
    ∙ sym (cond-true (x.at == a) x.plane (get_or planes a 0) (eq-eqb x.at a s))))
    (λ (s : x.at ≡ a → ⊥). get_or-set_other planes x.at a x.plane 0 (λ e. s (sym e))
    ∙ sym (cond-false (x.at == a) x.plane (get_or planes a 0) (ne_eqb x.at a s)))
    (cases_eq x.at a)

get_or-put : (planes : List ℕ) (listed : List Listed) (a : ℕ) → a < length planes
    → get_or (fold put_plane planes listed) a 0 ≡ fold (plane_or a) (get_or planes a 0) listed
get_or-put planes [] a h = refl
get_or-put planes (x ∷ xs) a h =
    get_or-put (set planes x.at x.plane) xs a (omega (arith, h, length-set planes x.at x.plane))
    ∙ ap (λ (z : ℕ). fold (plane_or a) z xs) (put_at planes x a h)

-- all planes, by address, are those that are put into as many planes of 0
pub planes_of-put : (n : ℕ) (listed : List Listed) → n ≡ 4096 → planes_of listed ≡ fold put_plane (replicate n 0) listed
unfolding plane_at
planes_of-put n listed is =
    let many : length (replicate {A = ℕ} n 0) ≡ n = length-replicate {A = ℕ} n 0 in
    let long : length (fold put_plane (replicate n 0) listed) ≡ 4096 = length-put (replicate n 0) listed
    ∙ (many ∙ is) in
    sym (is_each 0 4096 (plane_at listed) (fold put_plane (replicate n 0) listed) long
    (λ a h. get_or-put (replicate n 0) listed a (omega (arith, many))
    ∙ ap (λ (z : ℕ). fold (plane_or a) z listed) (get_or-replicate n a 0 0 (omega arith))))

-- ---- one chip of a machine

listed_once : (c : ℕ) (m : Machine) (memory flags : List ℕ) (x : Listed) → c < length m.chips
    → with_listed c (with_chip c m memory flags) x ≡ with_chip c m (put_plane memory x) flags
listed_once c m memory flags x h =
    let old : List Processor = chip_of memory flags in
    let same : set (set m.chips c old) c (with_memory_plane (chip_at (set m.chips c old) c) x.at (bit x.plane))
    ≡ set m.chips c (chip_of (set memory x.at x.plane) flags) =
    ap (λ (k : List Processor). set (set m.chips c old) c (with_memory_plane k x.at (bit x.plane)))
    (get_or-set_same m.chips c old [] h)
    ∙ (ap (λ (k : List Processor). set (set m.chips c old) c k) (with_memory_plane-chip_of memory flags x.at x.plane)
    ∙ set-set m.chips c old (chip_of (set memory x.at x.plane) flags)) in
    ap (λ (chips : List (List Processor)). record m { chips = chips }) same

listed_all : (c : ℕ) (m : Machine) (memory flags : List ℕ) (xs : List Listed) → c < length m.chips
    → fold (with_listed c) (with_chip c m memory flags) xs ≡ with_chip c m (fold put_plane memory xs) flags
listed_all c m memory flags [] h = refl
listed_all c m memory flags (x ∷ xs) h =
    ap (λ (z : Machine). fold (with_listed c) z xs) (listed_once c m memory flags x h)
    ∙ listed_all c m (put_plane memory x) flags xs h

-- one flag plane more, the others being 0 still
abbrev pub flags_below : ℕ → List ℕ → List ℕ
flags_below f flags = take f flags ++ replicate (16 - f) 0

one_zero_less : (f : ℕ) → f < 16 → replicate {A = ℕ} (16 - f) 0 ≡ 0 ∷ replicate (16 - (f + 1)) 0
one_zero_less f h = let more : 16 - f ≡ suc (16 - (f + 1)) = omega arith in ap (λ (k : ℕ). replicate {A = ℕ} k 0) more

flags_more : (f : ℕ) (flags : List ℕ) → f < 16 → length flags ≡ 16
    → take f flags ++ get_or flags f 0 ∷ replicate (16 - (f + 1)) 0 ≡ flags_below (f + 1) flags
flags_more f flags h long =
    sym (ap (λ (xs : List ℕ). xs ++ replicate (16 - (f + 1)) 0) (take_more flags f 0 (omega (arith, long)))
    ∙ append_assoc (take f flags) (get_or flags f 0 ∷ []) (replicate (16 - (f + 1)) 0))

flag_set : (f : ℕ) (flags : List ℕ) → f < 16 → length flags ≡ 16
    → set (flags_below f flags) f (get_or flags f 0) ≡ flags_below (f + 1) flags
flag_set f flags h long =
    let front : length (take f flags) ≡ f = length-take-le f flags (omega (arith, long)) in
    ap (λ (xs : List ℕ). set (take f flags ++ xs) f (get_or flags f 0)) (one_zero_less f h)
    ∙ (set_at (take f flags) 0 (replicate (16 - (f + 1)) 0) (get_or flags f 0) f front ∙ flags_more f flags h long)

pub flag_once : (c f plane : ℕ) (m : Machine) (flags : List ℕ) → c < length m.chips → f < 16 → length flags ≡ 16
    → plane ≡ get_or flags f 0
    → machine_with_flag_plane (with_flags c m (flags_below f flags)) c f plane
    ≡ with_flags c m (flags_below (f + 1) flags)
flag_once c f plane m flags h l long is =
    let zeros : List ℕ = replicate 4096 0 in
    let old : List Processor = chip_of zeros (flags_below f flags) in
    let same : set (set m.chips c old) c (with_flag_plane (chip_at (set m.chips c old) c) f (bit plane))
    ≡ set m.chips c (chip_of zeros (flags_below (f + 1) flags)) =
    ap (λ (k : List Processor). set (set m.chips c old) c (with_flag_plane k f (bit plane)))
    (get_or-set_same m.chips c old [] h)
    ∙ (ap (λ (k : List Processor). set (set m.chips c old) c k)
    (with_flag_plane-chip_of zeros (flags_below f flags) f plane)
    ∙ (set-set m.chips c old (chip_of zeros (set (flags_below f flags) f plane))
    ∙ ap (λ (k : List ℕ). set m.chips c (chip_of zeros k)) (ap (λ (w : ℕ). set (flags_below f flags) f w) is
    ∙ flag_set f flags l long))) in
    ap (λ (chips : List (List Processor)). record m { chips = chips }) same

-- a flag plane of 0 need not be put
pub flag_of_zero : (c f : ℕ) (m : Machine) (flags : List ℕ) → f < 16 → length flags ≡ 16 → get_or flags f 0 ≡ 0
    → with_flags c m (flags_below f flags) ≡ with_flags c m (flags_below (f + 1) flags)
flag_of_zero c f m flags l long none =
    ap (λ (k : List ℕ). with_flags c m k)
    (ap (λ (xs : List ℕ). take f flags ++ xs) (one_zero_less f l)
    ∙ (ap (λ (w : ℕ). take f flags ++ w ∷ replicate (16 - (f + 1)) 0) (sym none) ∙ flags_more f flags l long))

pub flags_none : (n c : ℕ) (m : Machine) (flags : List ℕ) → c < 2 ^ n → IsBlankFrom n c m
    → m ≡ with_flags c m (flags_below 0 flags)
flags_none n c m flags h blank =
    let same : m.chips ≡ set m.chips c (chip_of (replicate 4096 0) (replicate 16 0)) =
    sym (set-get_or m.chips c [])
    ∙ ap (λ (k : List Processor). set m.chips c k) (blank.chips c (omega arith) h ∙ blank_chip-chip_of) in
    ap (λ (chips : List (List Processor)). record m { chips = chips }) same

pub messages_all : (c : ℕ) (m : Machine) (ms : List Message) → c < length m.buffers
    → fold (with_message c) m ms ≡ record m { buffers = set m.buffers c (nth_or_nil m.buffers c ++ ms) }
messages_all c m [] h =
    ap (λ (buffers : List (List Message)). record m { buffers = buffers })
    (sym (ap (λ (b : List Message). set m.buffers c b) (append-nil (nth_or_nil m.buffers c)) ∙ set-get_or m.buffers c []))
messages_all c m (x ∷ xs) h =
    let buffer : List Message = nth_or_nil m.buffers c in
    let pushed : List Message = buffer ++ x ∷ [] in
    let same : set (set m.buffers c pushed) c (nth_or_nil (set m.buffers c pushed) c ++ xs)
    ≡ set m.buffers c (buffer ++ x ∷ xs) =
    ap (λ (b : List Message). set (set m.buffers c pushed) c (b ++ xs)) (get_or-set_same m.buffers c pushed [] h)
    ∙ (set-set m.buffers c pushed (pushed ++ xs)
    ∙ ap (λ (b : List Message). set m.buffers c b) (append_assoc buffer (x ∷ []) xs)) in
    messages_all c (record m { buffers = set m.buffers c pushed }) xs (omega (arith, h, length-set m.buffers c pushed))
    ∙ ap (λ (buffers : List (List Message)). record m { buffers = buffers }) same

-- the planes that are listed and the messages, put into a chip with these flags, are what the image has of it
pub chip_built : (n c : ℕ) (m : Machine) (image : ChipImage) → c < 2 ^ n → IsBlankFrom n c m
    → fold (with_message c) (fold (with_listed c) (with_flags c m image.flags) image.memory) image.messages
    ≡ with_chip_image c m image
unfolding with_chip_image chip_from chip_of
chip_built n c m image h blank =
    let chip : List Processor = chip_of (fold put_plane (replicate 4096 0) image.memory) image.flags in
    let with_planes : fold (with_listed c) (with_flags c m image.flags) image.memory
    ≡ record m { chips = set m.chips c chip } =
    listed_all c m (replicate 4096 0) image.flags image.memory (omega (arith, h, blank.chip_count)) in
    let is : chip ≡ chip_from image =
    ap (λ (planes : List ℕ). chip_of planes image.flags) (sym (planes_of-put 4096 image.memory refl)) in
    let buffer : nth_or_nil m.buffers c ++ image.messages ≡ image.messages =
    ap (λ (b : List Message). b ++ image.messages) (blank.buffers c (omega arith) h) in
    ap (λ (z : Machine). fold (with_message c) z image.messages) with_planes
    ∙ (messages_all c (record m { chips = set m.chips c chip }) image.messages (omega (arith, h, blank.buffer_count))
    ∙ (λ i. record m { chips = set m.chips c (is i); buffers = set m.buffers c (buffer i) }))

-- ---- one chip after another

pub blank_from-next : (n c : ℕ) (m : Machine) (image : ChipImage) → IsBlankFrom n c m
    → IsBlankFrom n (c + 1) (with_chip_image c m image)
unfolding with_chip_image
blank_from-next n c m image blank = record {
  chip_count = length-set m.chips c (chip_from image) ∙ blank.chip_count;
  buffer_count = length-set m.buffers c image.messages ∙ blank.buffer_count;
  chips = λ d l h. get_or-set_other m.chips c d (chip_from image) [] (λ e. omega (arith, e, l))
      ∙ blank.chips d (omega arith) h;
  buffers = λ d l h. get_or-set_other m.buffers c d image.messages [] (λ e. omega (arith, e, l))
      ∙ blank.buffers d (omega arith) h;
}

pub blank_from-blank_at : (n clock : ℕ) (routing : Routing) → IsBlankFrom n 0 (blank_at n clock routing)
unfolding blank_machine
blank_from-blank_at n clock routing = record {
  chip_count = length-tabulate 0 (2 ^ n) (λ c. blank_chip);
  buffer_count = length-tabulate 0 (2 ^ n) (λ c. []);
  chips = λ d l h. get_or-each_below (2 ^ n) (λ c. blank_chip) d [] h;
  buffers = λ d l h. get_or-each_below (2 ^ n) (λ c. []) d [] h;
}

add_nothing : (c : ℕ) → c + 0 ≡ c
add_nothing c = omega arith

nothing_before : (k : ℕ) → 0 + k ≡ k
nothing_before k = omega arith

add_one_more : (c k : ℕ) → c + 1 + k ≡ c + suc k
add_one_more c k = omega arith

abbrev filled : Machine → ℕ → List ChipImage → Machine
filled m c images = record m {
  chips = take c m.chips ++ map chip_from images;
  buffers = take c m.buffers ++ map (λ (image : ChipImage). image.messages) images;
}

chips_all : (images : List ChipImage) (m : Machine) (c : ℕ) → c + length images ≡ length m.chips
    → c + length images ≡ length m.buffers
    → fold put_chip (m, c) images ≡ (filled m c images, c + length images)
unfolding with_chip_image
chips_all [] m c chips buffers =
    λ i. (
      record m {
        chips =
            (sym (append-nil (take c m.chips) ∙ take_all c m.chips (omega (arith, chips)))) i;
        buffers =
            (sym (append-nil (take c m.buffers) ∙ take_all c m.buffers (omega (arith, buffers)))) i;
      },
      sym (add_nothing c) i,
    )
chips_all (image ∷ images) m c chips buffers =
    let next : Machine = with_chip_image c m image in
    let rest = chips_all images next (c + 1) (omega (arith, chips, length-set m.chips c (chip_from image)))
    (omega (arith, buffers, length-set m.buffers c image.messages)) in
    rest
    ∙ (λ i. (
      record m {
        chips = (ap (λ (xs : List (List Processor)). xs ++ map chip_from images)
            (take_more_set m.chips c (chip_from image) (omega (arith, chips)))
            ∙ append_assoc (take c m.chips) (chip_from image ∷ []) (map chip_from images)) i;
        buffers = (ap (λ (xs : List (List Message)). xs ++ map (λ (x : ChipImage). x.messages) images)
            (take_more_set m.buffers c image.messages (omega (arith, buffers)))
            ∙ append_assoc (take c m.buffers) (image.messages ∷ []) (map (λ (x : ChipImage). x.messages) images)) i;
      },
      (add_one_more c (length images)) i,
    ))

abbrev no_image : ChipImage
no_image = record { flags = []; memory = []; messages = [] }

no_logs : (n : ℕ) (images : List ChipImage) → length images ≡ 2 ^ n
    → each_chip {X = List Event} n (λ c. []) ≡ map (λ (image : ChipImage). []) images
no_logs n images long =
    sym (is_each {X = List Event} [] (2 ^ n) (λ c. []) (map (λ (image : ChipImage). []) images)
    (length-map images (λ (image : ChipImage). []) ∙ long)
    (λ c h. get_or-map (λ (image : ChipImage). []) images c no_image [] (omega (arith, long))))

-- all chips of an image, one after another, are its machine
pub machine_built : (n : ℕ) (image : Image) → length image.chips ≡ 2 ^ n
    → fold put_chip (blank_at n image.clock image.routing, 0) image.chips ≡ (machine_of_image image, 2 ^ n)
unfolding blank_machine machine_of_image
machine_built n image long =
    let chips : 0 + length image.chips ≡ length (blank_at n image.clock image.routing).chips =
    omega (arith, long, length-tabulate 0 (2 ^ n) (λ c. blank_chip)) in
    let buffers : 0 + length image.chips ≡ length (blank_at n image.clock image.routing).buffers =
    omega (arith, long, length-tabulate {X = List Message} 0 (2 ^ n) (λ c. [])) in
    chips_all image.chips (blank_at n image.clock image.routing) 0 chips buffers
    ∙ (λ i. (
      record {
        chips = map chip_from image.chips;
        buffers =
            map (λ (x : ChipImage). x.messages) image.chips;
        logs = no_logs n image.chips long i;
        clock = image.clock;
        routing = image.routing;
      },
      (nothing_before (length image.chips) ∙ long) i,
    ))
