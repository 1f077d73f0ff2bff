-- From the parts of an image to the whole, and from its machine to what is answered.
use Rattle.std.proofs.Common.{◌≡◌, ℕ, zero, suc, ◌+◌, ◌-◌, ◌<◌, ◌≤◌, ◌^◌, Bool, true, false, List, [], ◌∷◌, ◌++◌, map}
use Rattle.std.proofs.Common.{fold, set, Option, Some, None, Result, Ok, Err, IfOk, IfErr, length, refl, sym, ap, ◌∙◌, subst, arith}
use Rattle.std.proofs.Common.{if◌then◌else◌}
use Rattle.std.specs.List.{flat_map}
use Rattle.std.proofs.lemmas.List.{length_push}
use Rattle.cm_model.specs.declared.message.Message.{Message}
use Rattle.cm_model.specs.Processor.{Processor}
use Rattle.cm_model.specs.Array.{Chips, nth_or_nil}
use Rattle.cm_model.specs.Wiring.{Routing}
use Rattle.cm_model.specs.Machine.{Machine, blank_machine}
use Rattle.cm_model.specs.Unlogged.{standing_messages, has_tag_twice}
use Rattle.cm_image_format.specs.declared.fault.ImageFault.{ImageFault}
use Rattle.cm_image_format.specs.declared.fault.ImageFault.TheVariants.{TagTwice, Extra}
use Rattle.cm_image_format.specs.Reading.{◌>>=◌, Read, made, many, fault_in}
use Rattle.cm_image_format.specs.Header.{Head, header_part}
use Rattle.cm_image_format.specs.Cuts.{routing_part}
use Rattle.cm_image_format.specs.Image.{Listed, ChipImage, flags_part, memory_part, messages_part, chip_part}
use Rattle.cm_element.specs.Near.{with_near}
use Rattle.cm_element.specs.Planes.{chip_of}
use Rattle.cm_image_format.specs.Whole.{planes_of, chip_from, Image, machine_of_image, messages_in, image_part, ended}
use Rattle.cm_image_format.specs.Whole.{read_image, image_fault}
use Rattle.cm_image_fields.specs.Memory.{with_listed}
use Rattle.cm_image_fields.specs.Cuts.{with_routing}
use Rattle.cm_image_fields.proofs.Filling.{fill, fill_on, fill_err, fill_done, fill_is, many_err}
use Rattle.cm_image_load.specs.Chips.{with_flags, with_message, with_chip_image, IsBlankFrom, blank_at}
use Rattle.cm_image_load.specs.Chips.{chips_part, machine_of_chips, put_chip, chips_onto, IsBegun, IsReadTo}
use Rattle.cm_image_load.specs.Chips.{load_end, ended_with}
use Rattle.cm_image_load.specs.WaitingChips.{with_waiting}
use Rattle.cm_image_load.proofs.Building.{chip_built, blank_from-next, blank_from-blank_at, machine_built, messages_all}
use Rattle.cm_image_load.proofs.Waiting.{nothing_waits}
use Rattle.cm_image_load.proofs.Nearing.{near_within, near_more}

-- ---- what a value was made of

-- a step that gave a value, after one that gave one
bound : {A B : Type 0} (r : Result A ImageFault) (f : A → Result B ImageFault) (y : B) → (r >>= f) ≡ Ok y
    → (x : A) × (r ≡ Ok x) × (f x ≡ Ok y)
bound (Ok x) f y is = (x, refl, is)
bound (Err fault) f y is = absurd (cc)

same_ok : {A : Type 0} (x y : A) → ◌≡◌ {A = Result A ImageFault} (Ok x) (Ok y) → x ≡ y
same_ok x y is = cc

pub made_of : {A B : Type 0} (f : A → B) (read : List ℕ → Read A) (bytes rest : List ℕ) (y : B)
    → made f read bytes ≡ Ok (y, rest) → (x : A) × (read bytes ≡ Ok (x, rest)) × (f x ≡ y)
made_of f read bytes rest y is =
    let x = bound (read bytes) (λ x. Ok (f x.0, x.1)) (y, rest) is in
    let same : (f x.0.0, x.0.1) ≡ (y, rest) = same_ok (f x.0.0, x.0.1) (y, rest) x.2 in
    (x.0.0, x.1 ∙ ap (λ (k : List ℕ). Ok (x.0.0, k)) (ap (λ p. p.1) same), ap (λ p. p.0) same)

-- what holds where there is a value, and where there is a fault
pub with_value : {T : Type 0} (r : Result T ImageFault) (P Q : T → Type 0) → ((x : T) → P x → Q x) → IfOk r P → IfOk r Q
with_value (Ok x) P Q f h = f x h
with_value (Err fault) P Q f h = h

pub with_fault : {T : Type 0} (r : Result T ImageFault) (P Q : ImageFault → Type 0)
    → ((fault : ImageFault) → P fault → Q fault) → IfErr r P → IfErr r Q
with_fault (Ok x) P Q f h = h
with_fault (Err fault) P Q f h = f fault h

-- what is read as a fault has that fault
pub faulty : (n cap : ℕ) (bytes : List ℕ) (fault : ImageFault) → read_image n cap bytes ≡ Err fault
    → image_fault n cap bytes ≡ Some fault
faulty n cap bytes fault is = ap fault_in is

pub not_both : {A : Type 0} (o : Option ImageFault) (fault : ImageFault) → o ≡ Some fault → o ≡ None → A
not_both o fault some none = let wrong : ◌≡◌ {A = Option ImageFault} None (Some fault) = sym none ∙ some in absurd (cc)

-- ---- a chip

pub chip_read : (n cap clock c : ℕ) (m flagged listed whole : Machine) (bytes after more rest : List ℕ)
    (flags : List ℕ) → c < 2 ^ n → IsBlankFrom n c m
    → flags_part bytes ≡ Ok (flags, after) → flagged ≡ with_flags c m flags
    → made (λ xs. fold (with_listed c) flagged xs) memory_part after ≡ Ok (listed, more)
    → made (λ xs. fold (with_message c) listed xs) (messages_part n cap clock) more ≡ Ok (whole, rest)
    → made (with_chip_image c m) (chip_part n cap clock) bytes ≡ Ok (whole, rest)
unfolding chip_part
chip_read n cap clock c m flagged listed whole bytes after more rest flags h blank flags_are with_them memory_is
    messages_are =
    let memory = made_of (λ xs. fold (with_listed c) flagged xs) memory_part after more listed memory_is in
    let messages = made_of (λ xs. fold (with_message c) listed xs) (messages_part n cap clock) more rest whole
    messages_are in
    let image : ChipImage = record { flags = flags; memory = memory.0; messages = messages.0 } in
    let built : with_chip_image c m image ≡ whole =
    sym (chip_built n c m image h blank)
    ∙ (ap (λ (z : Machine). fold (with_message c) (fold (with_listed c) z memory.0) messages.0) (sym with_them)
    ∙ (ap (λ (z : Machine). fold (with_message c) z messages.0) memory.2 ∙ messages.2)) in
    rw (flags_are, memory.1, messages.1) (ap (λ (z : Machine). Ok (z, rest)) built)

-- the same, where all memory planes are listed: the chip waits behind others
pub full_read : (n cap clock c : ℕ) (m whole : Machine) (waiting more_wait : Chips)
    (bytes after more rest flags : List ℕ) → c < 2 ^ n → length waiting ≤ c → IsBlankFrom n c (with_waiting c m waiting)
    → flags_part bytes ≡ Ok (flags, after)
    → made (λ listed. waiting ++ chip_of (planes_of listed) flags ∷ []) memory_part after ≡ Ok (more_wait, more)
    → made (λ xs. fold (with_message c) m xs) (messages_part n cap clock) more ≡ Ok (whole, rest)
    → made (with_chip_image c (with_waiting c m waiting)) (chip_part n cap clock) bytes
    ≡ Ok (with_waiting (c + 1) whole more_wait, rest)
unfolding chip_part with_chip_image chip_from chip_of
full_read n cap clock c m whole waiting more_wait bytes after more rest flags h few blank flags_are memory_is
    messages_are =
    let memory = made_of (λ listed. waiting ++ chip_of (planes_of listed) flags ∷ []) memory_part after more more_wait
    memory_is in
    let messages = made_of (λ xs. fold (with_message c) m xs) (messages_part n cap clock) more rest whole
    messages_are in
    let image : ChipImage = record { flags = flags; memory = memory.0; messages = messages.0 } in
    let chip : List Processor = chip_of (planes_of memory.0) flags in
    let first : ℕ = c - length waiting in
    let behind : first + length waiting ≡ c = omega (arith, few) in
    let next : c + 1 - length (waiting ++ chip ∷ []) ≡ first = omega (arith, few, length_push waiting chip) in
    let within : first + length waiting < length m.chips =
    near_within m.chips waiting first (2 ^ n) blank.chip_count (omega (arith, behind, h)) in
    let chips : set (with_near m.chips waiting first) c chip
    ≡ with_near m.chips (waiting ++ chip ∷ []) (c + 1 - length (waiting ++ chip ∷ [])) =
    ap (λ (k : ℕ). set (with_near m.chips waiting first) k chip) (sym behind)
    ∙ sym (near_more m.chips waiting chip first within)
    ∙ ap (λ (k : ℕ). with_near m.chips (waiting ++ chip ∷ []) k) (sym next) in
    let buffer : messages.0 ≡ nth_or_nil m.buffers c ++ messages.0 =
    ap (λ (b : List Message). b ++ messages.0) (sym (blank.buffers c (omega arith) h)) in
    let built : with_chip_image c (with_waiting c m waiting) image ≡ with_waiting (c + 1) whole more_wait =
    (λ i. record m { chips = chips i; buffers = set m.buffers c (buffer i) })
    ∙ ap (λ (z : Machine). with_waiting (c + 1) z (waiting ++ chip ∷ []))
    (sym (messages_all c m messages.0 (omega (arith, h, blank.buffer_count))) ∙ messages.2)
    ∙ ap (λ (w : Chips). with_waiting (c + 1) whole w) memory.2 in
    rw (flags_are, memory.1, messages.1) (ap (λ (z : Machine). Ok (z, rest)) built)

pub full_wrong : {B : Type 0} (n cap clock : ℕ) (f : List Listed → B) (y : B) (bytes after more flags : List ℕ)
    (fault : ImageFault) → flags_part bytes ≡ Ok (flags, after) → made f memory_part after ≡ Ok (y, more)
    → messages_part n cap clock more ≡ Err fault → chip_part n cap clock bytes ≡ Err fault
unfolding chip_part
full_wrong n cap clock f y bytes after more flags fault flags_are memory_is is =
    let memory = made_of f memory_part after more y memory_is in
    rw (flags_are, memory.1, is) refl

pub flags_wrong : (n cap clock : ℕ) (bytes : List ℕ) (fault : ImageFault) → flags_part bytes ≡ Err fault
    → chip_part n cap clock bytes ≡ Err fault
unfolding chip_part
flags_wrong n cap clock bytes fault is = rw is refl

pub memory_wrong : (n cap clock : ℕ) (bytes after flags : List ℕ) (fault : ImageFault)
    → flags_part bytes ≡ Ok (flags, after) → memory_part after ≡ Err fault → chip_part n cap clock bytes ≡ Err fault
unfolding chip_part
memory_wrong n cap clock bytes after flags fault flags_are is = rw (flags_are, is) refl

pub messages_wrong : (n cap clock c : ℕ) (flagged listed : Machine) (bytes after more flags : List ℕ)
    (fault : ImageFault) → flags_part bytes ≡ Ok (flags, after)
    → made (λ xs. fold (with_listed c) flagged xs) memory_part after ≡ Ok (listed, more)
    → messages_part n cap clock more ≡ Err fault → chip_part n cap clock bytes ≡ Err fault
unfolding chip_part
messages_wrong n cap clock c flagged listed bytes after more flags fault flags_are memory_is is =
    let memory = made_of (λ xs. fold (with_listed c) flagged xs) memory_part after more listed memory_is in
    rw (flags_are, memory.1, is) refl

-- ---- all chips

many_count : {A : Type 0} (next : ℕ → A → ℕ) (one : ℕ → List ℕ → Read A) (count s : ℕ) (bytes rest : List ℕ)
    (xs : List A) → many next one count s bytes ≡ Ok (xs, rest) → length xs ≡ count
unfolding many
many_count {A} next one zero s bytes rest xs is =
    ap (λ (p : List A × List ℕ). length p.0) (sym (same_ok ([], bytes) (xs, rest) is))
many_count {A} next one (suc count) s bytes rest xs is =
    let a = bound (one s bytes) (λ a. many next one count (next s a.0) a.1 >>= (λ b. Ok (a.0 ∷ b.0, b.1))) (xs, rest)
    is in
    let b = bound (many next one count (next s a.0.0) a.0.1) (λ b. Ok (a.0.0 ∷ b.0, b.1)) (xs, rest) a.2 in
    ap (λ (p : List A × List ℕ). length p.0) (sym (same_ok (a.0.0 ∷ b.0.0, b.0.1) (xs, rest) b.2))
    ∙ ap suc (many_count next one count (next s a.0.0) a.0.1 b.0.1 b.0.0 b.1)

abbrev pub same_number : ℕ → ChipImage → ℕ
same_number i chip = i

-- what is left of the loop over the chips, from a chip on
abbrev pub chips_left : ℕ → ℕ → ℕ → ℕ → Machine → List ℕ → Read (Machine × ℕ)
chips_left n cap clock c m rest = fill same_number (λ i. chip_part n cap clock) put_chip (2 ^ n - c) 0 (m, c) rest

left_is : (n cap clock c : ℕ) (m : Machine) (rest : List ℕ)
    → chips_left n cap clock c m rest ≡ chips_onto n cap clock c m rest
left_is n cap clock c m rest = fill_is same_number (λ i. chip_part n cap clock) put_chip (2 ^ n - c) 0 (m, c) rest

-- a chip is read, and what is left is read on as before
pub chips_on : (n cap clock c : ℕ) (m whole : Machine) (before after : List ℕ) (all : Read (Machine × ℕ)) → c < 2 ^ n
    → chips_onto n cap clock c m before ≡ all
    → made (with_chip_image c m) (chip_part n cap clock) before ≡ Ok (whole, after)
    → chips_onto n cap clock (c + 1) whole after ≡ all
chips_on n cap clock c m whole before after all h same is =
    let image = made_of (with_chip_image c m) (chip_part n cap clock) before after whole is in
    ap (λ (z : Machine). chips_onto n cap clock (c + 1) z after) (sym image.2)
    ∙ (sym (left_is n cap clock (c + 1) (with_chip_image c m image.0) after)
    ∙ (sym (fill_on same_number (λ i. chip_part n cap clock) put_chip (2 ^ n) c 0 (m, c) before after image.0 h image.1)
    ∙ (left_is n cap clock c m before ∙ same)))

-- a chip is put in: those behind it are blank still
pub blank_on : (n cap clock c : ℕ) (m whole : Machine) (before after : List ℕ)
    → made (with_chip_image c m) (chip_part n cap clock) before ≡ Ok (whole, after) → IsBlankFrom n c m
    → m.clock ≡ clock
    → IsBlankFrom n (c + 1) whole × (whole.clock ≡ clock)
unfolding with_chip_image
blank_on n cap clock c m whole before after is blank time =
    let image = made_of (with_chip_image c m) (chip_part n cap clock) before after whole is in (
      subst (λ (z : Machine). IsBlankFrom n (c + 1) z) image.2 (blank_from-next n c m image.0 blank),
      ap (λ (z : Machine). z.clock) (sym image.2) ∙ time,
    )

from_nothing : (k : ℕ) → k - 0 ≡ k
from_nothing k = omega arith

pub chips_wrong : (n cap clock c : ℕ) (m : Machine) (before : List ℕ) (fault : ImageFault) → c < 2 ^ n
    → chip_part n cap clock before ≡ Err fault → chips_onto n cap clock c m before ≡ Err fault
chips_wrong n cap clock c m before fault h is =
    sym (left_is n cap clock c m before)
    ∙ fill_err same_number (λ i. chip_part n cap clock) put_chip (2 ^ n) c 0 (m, c) before fault h is

pub chips_done : (n cap clock c : ℕ) (m : Machine) (rest : List ℕ) → 2 ^ n ≤ c
    → chips_onto n cap clock c m rest ≡ Ok ((m, c), rest)
chips_done n cap clock c m rest h =
    sym (left_is n cap clock c m rest)
    ∙ fill_done same_number (λ i. chip_part n cap clock) put_chip (2 ^ n) c 0 (m, c) rest h

-- all chips, from the first on
all_wrong : (n cap clock : ℕ) (first : Machine) (bytes : List ℕ) (fault : ImageFault)
    → chips_onto n cap clock 0 first bytes ≡ Err fault → chips_part n cap clock bytes ≡ Err fault
all_wrong n cap clock first bytes fault is =
    many_err same_number (λ i. chip_part n cap clock) put_chip (2 ^ n) 0 (first, 0) bytes fault
    (ap (λ (k : ℕ). fill same_number (λ i. chip_part n cap clock) put_chip k 0 (first, 0) bytes)
    (sym (from_nothing (2 ^ n)))
    ∙ (left_is n cap clock 0 first bytes ∙ is))

all_read : (n cap clock c : ℕ) (routing : Routing) (m : Machine) (bytes rest : List ℕ)
    → chips_onto n cap clock 0 (blank_at n clock routing) bytes ≡ Ok ((m, c), rest)
    → made (machine_of_chips clock routing) (chips_part n cap clock) bytes ≡ Ok (m, rest)
all_read n cap clock c routing m bytes rest is =
    let one : ℕ → List ℕ → Read ChipImage = λ i. chip_part n cap clock in
    let all : made (λ xs. fold put_chip (blank_at n clock routing, 0) xs) (chips_part n cap clock) bytes ≡ Ok ((m, c), rest) =
    ap (λ (k : ℕ). made (λ xs. fold put_chip (blank_at n clock routing, 0) xs) (many same_number one k 0) bytes)
    (sym (from_nothing (2 ^ n))) ∙ is in
    let images = made_of (λ xs. fold put_chip (blank_at n clock routing, 0) xs) (chips_part n cap clock) bytes rest (m, c)
    all in
    let built = sym (machine_built n (record { clock = clock; routing = routing; chips = images.0 })
    (many_count same_number one (2 ^ n) 0 bytes rest images.0 images.1)) ∙ images.2 in
    rw images.1 (ap (λ (z : Machine). Ok (z, rest)) (ap (λ (p : Machine × ℕ). p.0) built))

-- ---- the whole

pub header_wrong : (n cap : ℕ) (bytes : List ℕ) (fault : ImageFault) → header_part n cap bytes ≡ Err fault
    → read_image n cap bytes ≡ Err fault
unfolding read_image image_part
header_wrong n cap bytes fault is = rw is refl

pub routing_wrong : (n cap : ℕ) (header : Head × ℕ) (bytes after : List ℕ) (fault : ImageFault)
    → header_part n cap bytes ≡ Ok (header, after) → routing_part n header.0 after ≡ Err fault
    → read_image n cap bytes ≡ Err fault
unfolding read_image image_part
routing_wrong n cap header bytes after fault is wrong = rw (is, wrong) refl

-- begun with the blank machine at the counter of the header
pub begun : (n cap : ℕ) (header : Head × ℕ) (bytes front after : List ℕ) (first machine : Machine)
    → header_part n cap bytes ≡ Ok (header, front) → first ≡ record (blank_machine n) { clock = header.1 }
    → made (with_routing first) (routing_part n header.0) front ≡ Ok (machine, after)
    → IsBegun n cap header bytes after machine
unfolding blank_machine
begun n cap header bytes front after first machine is blank routes =
    let routing = made_of (with_routing first) (routing_part n header.0) front after machine routes in
    let same : routing.0 ≡ machine.routing = ap (λ (m : Machine). m.routing) routing.2 in
    record {
      front = front;
      header_is = is;
      routing_is = routing.1 ∙ ap (λ (r : Routing). Ok (r, after)) same;
      blank = sym routing.2 ∙ (λ i. with_routing (blank i) (same i));
    }

pub chips_fault : (n cap : ℕ) (header : Head × ℕ) (bytes after : List ℕ) (machine : Machine) (fault : ImageFault)
    → IsBegun n cap header bytes after machine → chips_part n cap header.1 after ≡ Err fault
    → read_image n cap bytes ≡ Err fault
unfolding read_image image_part
chips_fault n cap header bytes after machine fault begun is = rw (begun.header_is, begun.routing_is, is) refl

flat_map-map : {X Y A : Type 0} (g : Y → List A) (f : X → Y) (xs : List X)
    → flat_map g (map f xs) ≡ flat_map (λ x. g (f x)) xs
flat_map-map g f [] = refl
flat_map-map g f (x ∷ xs) = ap (λ z. g (f x) ++ z) (flat_map-map g f xs)

messages_of-machine_of_image : (image : Image) → standing_messages (machine_of_image image) ≡ messages_in image.chips
unfolding machine_of_image
messages_of-machine_of_image image =
    flat_map-map (λ (buffer : List Message). buffer) (λ (chip : ChipImage). chip.messages) image.chips

ended_is : (image : Image) (rest : List ℕ)
    → ended image rest ≡ load_end (has_tag_twice (messages_in image.chips)) (machine_of_image image) rest
ended_is image [] = elim (has_tag_twice (messages_in image.chips)) as
    (λ (b : Bool). (if b then Err TagTwice else Ok (machine_of_image image))
    ≡ load_end b (machine_of_image image) []) [ true ↦ refl | false ↦ refl ]
ended_is image (byte ∷ bytes) =
    elim (has_tag_twice (messages_in image.chips)) as
    (λ (b : Bool). (if b then Err TagTwice else Err Extra)
    ≡ load_end b (machine_of_image image) (byte ∷ bytes)) [ true ↦ refl | false ↦ refl ]

image_ended : (n cap : ℕ) (header : Head × ℕ) (bytes after rest : List ℕ) (first machine : Machine)
    → IsBegun n cap header bytes after first
    → made (machine_of_chips header.1 first.routing) (chips_part n cap header.1) after ≡ Ok (machine, rest)
    → read_image n cap bytes ≡ ended_with machine rest
unfolding read_image image_part
image_ended n cap header bytes after rest first machine begun chips =
    let images = made_of (machine_of_chips header.1 first.routing) (chips_part n cap header.1) after rest machine chips in
    let image : Image = record { clock = header.1; routing = first.routing; chips = images.0 } in
    let twice : has_tag_twice (messages_in images.0) ≡ has_tag_twice (standing_messages machine) =
    ap has_tag_twice (sym (messages_of-machine_of_image image) ∙ ap standing_messages images.2) in
    rw (begun.header_is, begun.routing_is, images.1)
    (ended_is image rest ∙ (λ i. load_end (twice i) (images.2 i) rest))

-- ---- what is left of a whole image

-- nothing was read of the chips
pub read_to_first : (n cap : ℕ) (header : Head × ℕ) (whole chips : List ℕ) (machine : Machine)
    → IsBegun n cap header whole chips machine → IsReadTo n cap header 0 machine chips whole
read_to_first n cap header whole chips machine begun = record {
  front = begun.front;
  chips = chips;
  routing = machine.routing;
  header_is = begun.header_is;
  routing_is = begun.routing_is;
  same = ap (λ (m : Machine). chips_onto n cap header.1 0 m chips) begun.blank;
}

is_begun : (n cap : ℕ) (header : Head × ℕ) (c : ℕ) (m : Machine) (rest whole : List ℕ)
    → (to : IsReadTo n cap header c m rest whole)
    → IsBegun n cap header whole to.chips (blank_at n header.1 to.routing)
is_begun n cap header c m rest whole to = record {
  front = to.front;
  header_is = to.header_is;
  routing_is = to.routing_is;
  blank = refl;
}

-- a fault in the chips still to be read is the fault of the whole image (for `Loading::finish`)
pub left_wrong : (n cap : ℕ) (header : Head × ℕ) (c : ℕ) (m : Machine) (rest whole : List ℕ) (fault : ImageFault)
    → IsReadTo n cap header c m rest whole → chips_onto n cap header.1 c m rest ≡ Err fault
    → read_image n cap whole ≡ Err fault
left_wrong n cap header c m rest whole fault to is =
    chips_fault n cap header whole to.chips (blank_at n header.1 to.routing) fault
    (is_begun n cap header c m rest whole to)
    (all_wrong n cap header.1 (blank_at n header.1 to.routing) to.chips fault (sym to.same ∙ is))

-- once all chips are read, tags and the end are left to be judged
pub left_ended : (n cap : ℕ) (header : Head × ℕ) (c k : ℕ) (m machine : Machine) (rest after whole : List ℕ)
    → IsReadTo n cap header c m rest whole → chips_onto n cap header.1 c m rest ≡ Ok ((machine, k), after)
    → read_image n cap whole ≡ ended_with machine after
left_ended n cap header c k m machine rest after whole to is =
    image_ended n cap header whole to.chips after (blank_at n header.1 to.routing) machine
    (is_begun n cap header c m rest whole to)
    (all_read n cap header.1 k to.routing machine to.chips after (sym to.same ∙ is))

-- nothing waits yet, and every chip is blank
pub nothing : (n clock : ℕ) (machine : Machine) (waiting : Chips) → waiting ≡ []
    → machine ≡ blank_at n clock machine.routing → IsBlankFrom n 0 (with_waiting 0 machine waiting)
nothing n clock machine waiting none blank =
    subst (λ (m : Machine). IsBlankFrom n 0 m)
    (sym blank ∙ sym (nothing_waits 0 machine) ∙ ap (λ (chips : Chips). with_waiting 0 machine chips) (sym none))
    (blank_from-blank_at n clock machine.routing)

-- the whole of an image, of which nothing was put in
pub of_whole : (n cap : ℕ) (header : Head × ℕ) (bytes chips : List ℕ) (machine : Machine) (waiting : Chips)
    → IsBegun n cap header bytes chips machine → waiting ≡ []
    → IsReadTo n cap header 0 (with_waiting 0 machine waiting) chips bytes
of_whole n cap header bytes chips machine waiting begun none =
    subst (λ (m : Machine). IsReadTo n cap header 0 m chips bytes)
    (sym (nothing_waits 0 machine) ∙ ap (λ (w : Chips). with_waiting 0 machine w) (sym none))
    (read_to_first n cap header bytes chips machine begun)
