-- The records of eight chips: what their planes hold, and that an injection leaves them right.
use Rattle.std.proofs.Common.{◌≡◌, ◌≢◌, ℕ, ◌+◌, ◌<◌, Bool, None, Some, IfSome, Option, List, [], length, set, get_or}
use Rattle.std.proofs.Common.{sym, ap, ◌∙◌, ⊎_elim, arith, get_or-set_same, get_or-set_other, length-set}
use Rattle.std.proofs.lemmas.Bool.{cases_eq}
use Rattle.cm_model.specs.declared.letters.TheConstants.{SENT_REL}
use Rattle.cm_model.specs.Processor.{Processor, memory_bit}
use Rattle.cm_model.specs.Chip.{processor_at, no_processor}
use Rattle.cm_model.specs.Array.{Chips, chip_at}
use Rattle.cm_model.proofs.Each.{get_or-each_below}
use Rattle.cm_element.specs.Wide.{with_flag_plane}
use Rattle.cm_router.specs.Records.{Held, AreRecords, AreRecordsFrom}

-- flags of a chip leave its memory as it is
same_bits : (chip : List Processor) (number : ℕ) (plane : ℕ → Bool) (p at : ℕ) → p < 16
    → memory_bit (processor_at (with_flag_plane chip number plane) p) at ≡ memory_bit (processor_at chip p) at
unfolding with_flag_plane
same_bits chip number plane p at below =
    ap (λ (q : Processor). memory_bit q at) (get_or-each_below 16 _ p no_processor below)

-- so planes of records stay right
planes_stay : (first : Option ℕ) (planes : List ℕ) (run : Chips) (c number : ℕ) (plane : ℕ → Bool) → c < length run
    → IfSome first (AreRecordsFrom planes run)
    → IfSome first (AreRecordsFrom planes (set run c (with_flag_plane (chip_at run c) number plane)))
planes_stay None planes run c number plane inside are = tt
planes_stay (Some first) planes run c number plane inside are = λ j k few within small p below. ⊎_elim
    (λ (same : first + j ≡ c).
    let here : first + j < length run = omega arith in
    are j k few here small p below
    ∙ ap (λ (i : ℕ). memory_bit (processor_at (get_or run i []) p) (SENT_REL + k)) same
    ∙ sym (same_bits (chip_at run c) number plane p (SENT_REL + k) below)
    ∙ sym (ap (λ v. memory_bit (processor_at v p) (SENT_REL + k))
    (ap (λ (i : ℕ). get_or (set run c (with_flag_plane (chip_at run c) number plane)) i []) same
    ∙ get_or-set_same run c (with_flag_plane (chip_at run c) number plane) [] inside)))
    (λ (other : first + j ≢ c).
    let here : first + j < length run =
    omega (arith, within, length-set run c (with_flag_plane (chip_at run c) number plane)) in
    are j k few here small p below
    ∙ sym (ap (λ v. memory_bit (processor_at v p) (SENT_REL + k))
    (get_or-set_other run c (first + j) (with_flag_plane (chip_at run c) number plane) [] other)))
    (cases_eq (first + j) c)

-- what is held of the records stays right where a flag of a chip was put
pub records_stay : (held : Held) (run new : Chips) (c number : ℕ) (plane : ℕ → Bool) → c < length run
    → new ≡ set run c (with_flag_plane (chip_at run c) number plane) → AreRecords held run → AreRecords held new
unfolding AreRecords
records_stay held run new c number plane inside is are =
    rw is (planes_stay held.first held.planes run c number plane inside are)
