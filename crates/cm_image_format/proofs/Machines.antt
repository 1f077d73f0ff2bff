-- A machine and its image, both ways.
use Rattle.std.proofs.Common.{◌≡◌, ℕ, ◌<◌, ◌≤◌, ◌^◌, false, List, [], length, get_or, map, refl, sym, ap, ◌∙◌, subst}
use Rattle.std.proofs.Common.{arith, nat_le}
use Rattle.std.proofs.lemmas.Bool.{leb-true}
use Rattle.std.proofs.lemmas.List.{length-map, get_or-map}
use Rattle.std.proofs.lemmas.List.Elements.{All-nil, All-get_or, All-from_get_or}
use Rattle.std.proofs.lemmas.Simd.{map-map}
use Rattle.std.specs.List.{All, range_with_len}
use Rattle.cm_model.specs.declared.message.Message.{Message}
use Rattle.cm_model.specs.declared.message.Event.{Event}
use Rattle.cm_model.specs.Each.{tabulate}
use Rattle.cm_model.specs.Processor.{Processor}
use Rattle.cm_model.specs.Whole.{IsChip}
use Rattle.cm_model.specs.Array.{each_chip, chip_at, nth_or_nil}
use Rattle.cm_model.specs.Machine.{Machine}
use Rattle.cm_model.specs.Keeping.{IsMessage, IsEventOf}
use Rattle.cm_model.specs.Unlogged.{IsUnlogged, has_tag_twice}
use Rattle.cm_model.proofs.Each.{length-tabulate, get_or-each_below, is_each}
use Rattle.cm_model.proofs.Unlogged.{standing, none_injected, HasTagsOnce-standing, IsBorn, BornBefore-buffers, born_at}
use Rattle.cm_image_format.specs.declared.fault.ImageFault.TheVariants.{Count}
use Rattle.cm_image_format.specs.Image.{ChipImage}
use Rattle.cm_image_format.specs.Whole.{image_of_chip, chip_from, Image, image_of, machine_of_image, messages_in}
use Rattle.cm_image_format.specs.Laws.{IsStorable}
use Rattle.cm_image_format.proofs.Forms.{must_hold}
use Rattle.cm_image_format.proofs.Parts.{IsStoredMessage, IsChipImage}
use Rattle.cm_image_format.proofs.Images.{IsImage}
use Rattle.cm_image_format.proofs.Chips.{chip_from-image_of_chip, image_of_chip-chip_from, AllFrom-All, All-AllFrom}
use Rattle.cm_image_format.proofs.Chips.{AreMessages-buffer, IsChipImage-image_of_chip, IsChip-chip_from}
use Rattle.cm_image_format.proofs.Accounts.{messages_in-image_of}

map-tabulate : {X Y : Type 0} (h : X → Y) (first count : ℕ) (f : ℕ → X)
    → map h (tabulate first count f) ≡ tabulate first count (λ k. h (f k))
unfolding tabulate
map-tabulate h first count f = map-map h f (range_with_len first count)

abbrev chip_image : Machine → ℕ → ChipImage
chip_image machine c = image_of_chip (chip_at machine.chips c) (nth_or_nil machine.buffers c)

buffer_again : (machine : Machine) (c : ℕ) → (chip_image machine c).messages ≡ nth_or_nil machine.buffers c
unfolding image_of_chip
buffer_again machine c = refl

-- ---- a machine is made again of its image

pub machine_of_image-image_of : (n cap : ℕ) (machine : Machine) → IsStorable n cap machine
    → machine_of_image (image_of n machine) ≡ machine
unfolding machine_of_image
machine_of_image-image_of n cap machine is =
    let whole = is.whole in
    let chips : map chip_from (each_chip n (chip_image machine)) ≡ machine.chips =
    map-tabulate chip_from 0 (2 ^ n) (chip_image machine)
    ∙ sym (is_each [] (2 ^ n) (λ c. chip_from (chip_image machine c)) machine.chips whole.chip_count
    (λ c h. sym (chip_from-image_of_chip (chip_at machine.chips c) (nth_or_nil machine.buffers c) (whole.whole c h)))) in
    let buffers : map (λ (chip : ChipImage). chip.messages) (each_chip n (chip_image machine)) ≡ machine.buffers =
    map-tabulate (λ (chip : ChipImage). chip.messages) 0 (2 ^ n) (chip_image machine)
    ∙ sym (is_each [] (2 ^ n) (λ c. (chip_image machine c).messages) machine.buffers whole.buffer_count
    (λ c h. sym (buffer_again machine c))) in
    let logs : map (λ (chip : ChipImage). []) (each_chip n (chip_image machine)) ≡ machine.logs =
    map-tabulate (λ (chip : ChipImage). []) 0 (2 ^ n) (chip_image machine) ∙ sym is.unlogged in
    λ i. record machine { chips = chips i; buffers = buffers i; logs = logs i }

-- ---- an image is had again of its machine

abbrev no_image : ChipImage
no_image = record { flags = []; memory = []; messages = [] }

chip_made : (image : Image) (c : ℕ) → c < length image.chips
    → chip_at (machine_of_image image).chips c ≡ chip_from (get_or image.chips c no_image)
unfolding machine_of_image
chip_made image c h = get_or-map chip_from image.chips c no_image [] h

buffer_made : (image : Image) (c : ℕ) → c < length image.chips
    → nth_or_nil (machine_of_image image).buffers c ≡ (get_or image.chips c no_image).messages
unfolding machine_of_image
buffer_made image c h = get_or-map (λ (chip : ChipImage). chip.messages) image.chips c no_image [] h

clock_made : (image : Image) → (machine_of_image image).clock ≡ image.clock
unfolding machine_of_image
clock_made image = refl

routing_made : (image : Image) → (machine_of_image image).routing ≡ image.routing
unfolding machine_of_image
routing_made image = refl

each_is : (n cap : ℕ) (image : Image) (c : ℕ) → IsImage n cap image → c < 2 ^ n
    → IsChipImage n cap image.clock (get_or image.chips c no_image)
each_is n cap image c is h =
    All-get_or (IsChipImage n cap image.clock) image.chips c no_image (omega (arith, is.count))
    (All-AllFrom (IsChipImage n cap image.clock) 0 image.chips is.each)

pub image_of-machine_of_image : (n cap : ℕ) (image : Image) → IsImage n cap image → image_of n (machine_of_image image) ≡ image
image_of-machine_of_image n cap image is =
    let chips : each_chip n (chip_image (machine_of_image image)) ≡ image.chips =
    sym (is_each no_image (2 ^ n) (chip_image (machine_of_image image)) image.chips is.count
    (λ c h. sym ((λ i. image_of_chip (chip_made image c (omega (arith, is.count)) i)
    (buffer_made image c (omega (arith, is.count)) i))
    ∙ image_of_chip-chip_from n cap image.clock (get_or image.chips c no_image) (each_is n cap image c is h)))) in
    λ i. record { clock = clock_made image i; routing = routing_made image i; chips = chips i }

-- ---- a machine has an image

stored_messages : (n clock : ℕ) (ms : List Message) → All (IsMessage n) ms → All (IsBorn clock) ms
    → All (IsStoredMessage n clock) ms
stored_messages n clock ms are born = λ k d h. record { message = are k d h; birth = born k d h }

pub IsImage-image_of : (n cap : ℕ) (machine : Machine) → IsStorable n cap machine → IsImage n cap (image_of n machine)
IsImage-image_of n cap machine is =
    let whole = is.whole in
    let chips : List ChipImage = each_chip n (chip_image machine) in
    record {
      dimension = is.dimension;
      some_room = is.some_room;
      most_room = is.most_room;
      clock = is.clock;
      routing = whole.routing;
      count = length-tabulate 0 (2 ^ n) (chip_image machine);
      each = AllFrom-All (IsChipImage n cap machine.clock) 0 chips
          (All-from_get_or (IsChipImage n cap machine.clock) chips no_image
          (λ c h. let below : c < 2 ^ n = omega (arith, length-tabulate 0 (2 ^ n) (chip_image machine)) in
          subst (λ (chip : ChipImage). IsChipImage n cap machine.clock chip)
          (sym (get_or-each_below (2 ^ n) (chip_image machine) c no_image below))
          (IsChipImage-image_of_chip n cap
          machine.clock (chip_at machine.chips c) (nth_or_nil machine.buffers c) (whole.whole c below)
          (AreMessages-buffer n cap machine.clock (nth_or_nil machine.buffers c) is.most_room (whole.room c below)
          (stored_messages n machine.clock (nth_or_nil machine.buffers c) (whole.messages c below)
          (born_at n machine c whole.births below))))));
    }

-- ---- what is made of an image is a machine

unlogged : (n cap : ℕ) (image : Image) → IsImage n cap image → IsUnlogged n (machine_of_image image)
unfolding machine_of_image
unlogged n cap image is =
    is_each [] (2 ^ n) (λ c. []) (map (λ (chip : ChipImage). []) image.chips)
    (length-map image.chips (λ (chip : ChipImage). []) ∙ is.count)
    (λ c h. get_or-map (λ (chip : ChipImage). []) image.chips c no_image [] (omega (arith, is.count)))

counts : (n cap : ℕ) (image : Image) → IsImage n cap image
    → (length (machine_of_image image).chips ≡ 2 ^ n) × (length (machine_of_image image).buffers ≡ 2 ^ n)
    × (length (machine_of_image image).logs ≡ 2 ^ n)
unfolding machine_of_image
counts n cap image is = (
  length-map image.chips chip_from ∙ is.count,
  length-map image.chips (λ (chip : ChipImage). chip.messages)
      ∙ is.count,
  length-map image.chips (λ (chip : ChipImage). []) ∙ is.count,
)

stored_at : (n cap : ℕ) (image : Image) (c : ℕ) → IsImage n cap image → c < 2 ^ n
    → All (IsStoredMessage n image.clock) (nth_or_nil (machine_of_image image).buffers c)
stored_at n cap image c is h =
    subst (λ (ms : List Message). All (IsStoredMessage n image.clock) ms)
    (sym (buffer_made image c (omega (arith, is.count))))
    (All-AllFrom (IsStoredMessage n image.clock)
    0 (get_or image.chips c no_image).messages (each_is n cap image c is h).messages.1)

pub IsStorable-machine_of_image : (n cap : ℕ) (image : Image) → IsImage n cap image
    → has_tag_twice (messages_in image.chips) ≡ false → IsStorable n cap (machine_of_image image)
unfolding machine_of_image
IsStorable-machine_of_image n cap image is apart =
    let m : Machine = machine_of_image image in
    let long = counts n cap image is in
    let none : IsUnlogged n (machine_of_image image) = unlogged n cap image is in
    let clock : (machine_of_image image).clock ≡ image.clock = clock_made image in
    let early : image.clock < 2 ^ 63 = is.clock in
    let once : has_tag_twice (standing n (machine_of_image image)) ≡ false =
    ap has_tag_twice (sym (messages_in-image_of n (machine_of_image image))
    ∙ ap (λ (im : Image). messages_in im.chips) (image_of-machine_of_image n cap image is)) ∙ apart in
    record {
      dimension = is.dimension;
      some_room = is.some_room;
      most_room = is.most_room;
      clock = omega arith;
      unlogged = none;
      whole = record {
        chip_count = long.0;
        buffer_count = long.1;
        log_count = long.2;
        whole = λ c h. subst (λ (chip : List Processor). IsChip chip)
            (sym (chip_made image c (omega (arith, is.count))))
            (IsChip-chip_from (get_or image.chips c no_image) (each_is n cap image c is h).flags);
        room = λ c h.
            let here : length (get_or image.chips c no_image).messages ≤ cap =
            leb-true (length (get_or image.chips c no_image).messages) cap
            (must_hold Count (nat_le (length (get_or image.chips c no_image).messages) cap)
            (each_is n cap image c is h).messages.0.1) in
            subst (λ (ms : List Message). length ms ≤ cap) (sym (buffer_made image c (omega (arith, is.count)))) here;
        messages = λ c h. λ k d l. (stored_at n cap image c is h k d l).message;
        routing = is.routing;
        events = λ c h. subst (λ (log : List Event). All (IsEventOf n c) log)
            (sym (ap (λ (logs : List (List Event)). nth_or_nil logs c) none
            ∙ get_or-each_below (2 ^ n) (λ b. []) c [] h)) (All-nil (IsEventOf n c));
        births = BornBefore-buffers n (machine_of_image image) none
            (λ c h. λ k d l. subst (λ (t : ℕ). (get_or (nth_or_nil (machine_of_image image).buffers c) k d).tag.birth < t)
            (sym clock) (stored_at n cap image c is h k d l).birth);
        tags = HasTagsOnce-standing n (machine_of_image image) none once;
        injected = none_injected n (machine_of_image image) none;
      };
    }
