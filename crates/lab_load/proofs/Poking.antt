-- One chip that is changed again and again, and places one after another.
use Rattle.std.proofs.Common.{◌≡◌, ℕ, suc, ◌+◌, ◌<◌, List, [], length, set, ap, ◌∙◌, arith}
use Rattle.std.proofs.lemmas.List.{get_or-set_same, set-set, length-set}
use Rattle.cm_model.specs.Processor.{Processor}
use Rattle.cm_model.specs.Array.{Chips, chip_at}
use Rattle.lab_load.specs.declared.offers.Load.{Load}
use Rattle.lab_load.specs.Asking.{Asking, asking_after_place, asking_after_places}

-- the chip that was put in its place is changed
pub poked_again : (f : List Processor → List Processor) (old now new : Chips) (c : ℕ) (chip : List Processor)
    → c < length old → now ≡ set old c chip → new ≡ set now c (f (chip_at now c)) → new ≡ set old c (f chip)
poked_again f old now new c chip h is more =
    more
    ∙ (ap (λ (k : Chips). set k c (f (chip_at k c))) is
    ∙ (ap (λ (x : List Processor). set (set old c chip) c (f x)) (get_or-set_same old c chip [] h)
    ∙ set-set old c chip (f chip)))

pub as_many : (old new : Chips) (c : ℕ) (chip : List Processor) → new ≡ set old c chip → length new ≡ length old
as_many old new c chip is = ap length is ∙ length-set old c chip

pub asking_after_places-more : (load : Load) (t : ℕ) (asking : Asking) (k : ℕ)
    → asking_after_place load t (asking_after_places load t asking k) k ≡ asking_after_places load t asking (k + 1)
unfolding asking_after_places
asking_after_places-more load t asking k =
    let next : suc k ≡ k + 1 = omega arith in ap (λ (j : ℕ). asking_after_places load t asking j) next
