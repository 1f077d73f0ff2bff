-- A blank chip is 35 zero bytes of an image, and so many of them are all that a blank machine has of its chips.
use Rattle.std.proofs.Common.{◌≡◌, ℕ, zero, suc, ◌+◌, ◌*◌, ◌==◌, ◌<◌, ◌≤◌, ◌^◌, not, cond, false, List, [], ◌∷◌, ◌++◌}
use Rattle.std.proofs.Common.{length, replicate, refl, sym, ap, ◌∙◌, arith}
use Rattle.std.specs.Int.{w8, w16}
use Rattle.std.specs.List.{flat_map}
use Rattle.std.proofs.lemmas.List.{get_or-replicate, replicate-append-replicate}
use Rattle.cm_model.specs.declared.message.Message.{Message}
use Rattle.cm_model.specs.Each.{tabulate}
use Rattle.cm_model.specs.Processor.{Processor, memory_bit, flag, blank_processor}
use Rattle.cm_model.specs.Chip.{no_processor, processor_at, blank_chip}
use Rattle.cm_model.specs.Array.{chip_at, nth_or_nil}
use Rattle.cm_model.specs.Machine.{blank_machine}
use Rattle.cm_model.proofs.Bits.{bit-zero}
use Rattle.cm_model.proofs.Each.{get_or-each_below, same_each_below}
use Rattle.cm_model.proofs.Values.{plane_number-is}
use Rattle.cm_message.specs.Bytes.{number_bytes}
use Rattle.cm_image_format.specs.Image.{Listed, ChipImage, listed_text, chip_text}
use Rattle.cm_image_format.specs.Whole.{flag_plane_of, memory_plane_of, image_of_chip}
use Rattle.cm_image_dump.specs.Planes.{flags_text, planes_below, listed_below, chips_text}
use Rattle.cm_image_dump.proofs.Counting.{no_plane}
use Rattle.cm_image_dump.proofs.Dumping.{planes_more, chip_text-parts}

-- ---- one chip

blank_at : (p : ℕ) → p < 16 → processor_at blank_chip p ≡ blank_processor
unfolding blank_chip
blank_at p h = get_or-each_below 16 (λ k. blank_processor) p no_processor h

no_bit : (p at : ℕ) → p < 16 → at < 4096 → false ≡ memory_bit (processor_at blank_chip p) at
unfolding blank_processor
no_bit p at h l =
    sym (ap (λ (q : Processor). memory_bit q at) (blank_at p h) ∙ get_or-replicate 4096 at false false l)

no_flag : (p f : ℕ) → p < 16 → f < 16 → false ≡ flag (processor_at blank_chip p) f
unfolding blank_processor
no_flag p f h l =
    sym (ap (λ (q : Processor). flag q f) (blank_at p h) ∙ get_or-replicate 16 f false false l)

no_memory_plane : (at : ℕ) → at < 4096 → memory_plane_of blank_chip at ≡ 0
no_memory_plane at l = no_plane blank_chip at at (λ p h. bit-zero p ∙ no_bit p at h l) refl

no_flag_plane : (f : ℕ) → f < 16 → flag_plane_of blank_chip f ≡ 0
no_flag_plane f l =
    sym (plane_number-is 0 (λ p. flag (processor_at blank_chip p) f) (omega arith)
    (λ p h. bit-zero p ∙ no_flag p f h l))

-- none of its planes is listed
none_listed : (k : ℕ) → k ≤ 4096 → planes_below blank_chip k ≡ []
unfolding planes_below tabulate
none_listed zero l = refl
none_listed (suc k) l =
    let next : suc k ≡ k + 1 = omega arith in
    let last : memory_plane_of blank_chip k ≡ 0 = no_memory_plane k (omega (arith, l)) in
    let entry : Listed = record { at = k; plane = memory_plane_of blank_chip k } in
    ap (planes_below blank_chip) next
    ∙ (planes_more blank_chip k
    ∙ ((λ i. none_listed k (omega (arith, l)) i ++ cond (not (last i == 0)) (record {
      at = k;
      plane = last i;
    } ∷ []) [])))

zero_flags : flags_text blank_chip 16 ≡ replicate 32 0
unfolding flags_text tabulate number_bytes
zero_flags =
    ap (flat_map (number_bytes w16)) (same_each_below 0 16 (flag_plane_of blank_chip) (λ f. 0) no_flag_plane)

pub blank_chip_text : chip_text (image_of_chip blank_chip []) ≡ replicate 35 0
unfolding listed_below number_bytes
blank_chip_text =
    chip_text-parts blank_chip []
    ∙ (λ i. zero_flags i
    ++ ((number_bytes w16 (length (none_listed 4096 (omega arith) i)) ++ flat_map listed_text (none_listed 4096 (omega arith) i))
    ++ (number_bytes w8 0 ++ [])))

-- ---- all chips

all_zeros : (a k : ℕ) → flat_map chip_text (tabulate a k (λ c. image_of_chip blank_chip [])) ≡ replicate (k * 35) 0
unfolding tabulate
all_zeros a zero = refl
all_zeros a (suc k) =
    let more : 35 + k * 35 ≡ suc k * 35 = omega arith in
    (λ i. blank_chip_text i ++ all_zeros (a + 1) k i)
    ∙ (replicate-append-replicate 35 (k * 35) 0 ∙ ap (λ (j : ℕ). replicate j 0) more)

no_chip : ChipImage
no_chip = record { flags = []; memory = []; messages = [] }

pub blank_chips_text : (n : ℕ) → chips_text (blank_machine n) 0 (2 ^ n) ≡ replicate (2 ^ n * 35) 0
unfolding blank_machine
blank_chips_text n =
    ap (flat_map chip_text)
    (same_each_below no_chip (2 ^ n)
    (λ c. image_of_chip (chip_at (blank_machine n).chips c) (nth_or_nil (blank_machine n).buffers c))
    (λ c. image_of_chip blank_chip [])
    (λ c h. λ i. image_of_chip (get_or-each_below (2 ^ n) (λ b. blank_chip) c [] h i)
    (get_or-each_below {X = List Message} (2 ^ n) (λ b. []) c [] h i)))
    ∙ all_zeros 0 (2 ^ n)
