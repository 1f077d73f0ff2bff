-- How many bytes a dump has: of each part, of a chip, of all.
use Rattle.std.proofs.Common.{◌≡◌, ℕ, ◌+◌, ◌*◌, ◌/◌, ◌^◌, ◌<◌, ◌≤◌, List, [], ◌++◌, length, refl, sym, ap, ◌∙◌}
use Rattle.std.proofs.Common.{arith, lit<}
use Rattle.std.specs.Int.{w8, w16, w64}
use Rattle.std.specs.List.{flat_map}
use Rattle.std.proofs.Math.Nat.{pow-le-pow_right, mul-le-mul}
use Rattle.std.proofs.lemmas.List.{length-append}
use Rattle.std.proofs.lemmas.List.FromFn.{length-map-range_with_len}
use Rattle.cm_model.specs.declared.message.Message.{Message}
use Rattle.cm_model.specs.Each.{tabulate}
use Rattle.cm_model.specs.Processor.{Processor}
use Rattle.cm_model.specs.Array.{chip_at, nth_or_nil}
use Rattle.cm_model.specs.Machine.{Machine}
use Rattle.cm_message.specs.Bytes.{number_bytes, message_text}
use Rattle.cm_image_format.specs.Header.{Head, head_text}
use Rattle.cm_image_format.specs.Cuts.{head_of, routing_text}
use Rattle.cm_image_format.specs.Image.{Listed, listed_text, chip_text}
use Rattle.cm_image_format.specs.Whole.{flag_plane_of, image_of_chip, image_text, text_of}
use Rattle.cm_image_fields.proofs.Lengths.{length-flat_map_same, two}
use Rattle.cm_image_dump.specs.Planes.{flags_text, planes_below, listed_below, chips_text}
use Rattle.cm_image_dump.proofs.Dumping.{chip_text-parts, chips_none, chips_more}

listed_four : (x : Listed) → length (listed_text x) ≡ 4
unfolding number_bytes
listed_four x = refl

message_eighteen : (m : Message) → length (message_text m) ≡ 18
unfolding number_bytes
message_eighteen m = refl

head_eight : (head : Head) → length (head_text head) ≡ 8
unfolding head_text number_bytes
head_eight head = refl

clock_eight : (n : ℕ) → length (number_bytes w64 n) ≡ 8
unfolding number_bytes
clock_eight n = refl

one : (n : ℕ) → length (number_bytes w8 n) ≡ 1
unfolding number_bytes
one n = refl

flags_thirty_two : (chip : List Processor) → length (flags_text chip 16) ≡ 32
unfolding flags_text tabulate
flags_thirty_two chip =
    length-flat_map_same (number_bytes w16) 2 (tabulate 0 16 (flag_plane_of chip)) two
    ∙ ap (λ k. k * 2) (length-map-range_with_len (flag_plane_of chip) 0 16)

listed_fours : (chip : List Processor) → length (listed_below chip 4096) ≡ length (planes_below chip 4096) * 4
unfolding listed_below
listed_fours chip = length-flat_map_same listed_text 4 (planes_below chip 4096) listed_four

pub length-chip_text : (chip : List Processor) (buffer : List Message)
    → length (chip_text (image_of_chip chip buffer))
    ≡ 35 + length (planes_below chip 4096) * 4 + length buffer * 18
length-chip_text chip buffer =
    let flags : List ℕ = flags_text chip 16 in
    let count : List ℕ = number_bytes w16 (length (planes_below chip 4096)) in
    let listed : List ℕ = listed_below chip 4096 in
    let few : List ℕ = number_bytes w8 (length buffer) in
    let messages : List ℕ = flat_map message_text buffer in
    ap length (chip_text-parts chip buffer)
    ∙ omega (
      arith,
      length-append flags ((count ++ listed) ++ (few ++ messages)),
      length-append (count ++ listed) (few ++ messages),
      length-append count listed,
      length-append few messages,
      flags_thirty_two chip,
      two (length (planes_below chip 4096)),
      listed_fours chip,
      one (length buffer),
      length-flat_map_same message_text 18 buffer message_eighteen,
    )

pub length-chips_none : (machine : Machine) → length (chips_text machine 0 0) ≡ 0
length-chips_none machine = ap length (sym (chips_none machine 0 []))

pub length-chips_more : (machine : Machine) (c : ℕ) → length (chips_text machine 0 (c + 1))
    ≡ length (chips_text machine 0 c)
    + length (chip_text (image_of_chip (chip_at machine.chips c) (nth_or_nil machine.buffers c)))
length-chips_more machine c =
    let last : List ℕ = chip_text (image_of_chip (chip_at machine.chips c) (nth_or_nil machine.buffers c)) in
    ap length (sym (chips_more machine [] (chips_text machine 0 c) (chips_text machine 0 c ++ last) 0 c c
    (omega arith) refl refl))
    ∙ length-append (chips_text machine 0 c) last

pub length-text_of : (n cap : ℕ) (machine : Machine)
    → length (text_of n cap machine)
    ≡ 16 + length (routing_text machine.routing) + length (chips_text machine 0 (2 ^ n))
unfolding image_text
length-text_of n cap machine =
    let cuts : List ℕ = routing_text machine.routing in
    let chips : List ℕ = chips_text machine 0 (2 ^ n) in
    let head : Head = head_of n cap machine.routing in
    omega (
      arith,
      length-append (head_text head) (number_bytes w64 machine.clock ++ (cuts ++ chips)),
      length-append (number_bytes w64 machine.clock) (cuts ++ chips),
      length-append cuts chips,
      head_eight head,
      clock_eight machine.clock,
    )

-- so few that a number of two bytes counts them
pub few_cuts : (n k : ℕ) → n ≤ 12 → k ≤ n * 2 ^ n / 2 → k < 65536
few_cuts n k h most =
    let chips : 2 ^ n ≤ 2 ^ 12 = pow-le-pow_right (lit< tt) h in
    let wires : n * 2 ^ n ≤ 12 * 2 ^ 12 = mul-le-mul h chips in
    omega arith
