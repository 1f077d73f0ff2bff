-- Every step at a block: with the parcel that is due to it, and without one where the step is no round.
use Rattle.std.proofs.Common.{◌≡◌, ℕ, ◌+◌, ◌-◌, ◌*◌, ◌/◌, ◌%◌, ◌^◌, ◌<◌, ◌≤◌, ◌==◌, ◌&&◌, Bool, true, false, not, []}
use Rattle.std.proofs.Common.{refl, sym, ◌∙◌, ap, subst, ⊎_elim, arith}
use Rattle.std.proofs.lemmas.Bool.{cases_Bool}
use Rattle.std.proofs.lemmas.Bool.Decides.{nat_tests}
use Rattle.std.specs.Prelude.{bit_xor}
use Rattle.cm_bits.specs.declared.place.Place.{Place}
use Rattle.cm_bits.specs.declared.plane.Dir.{Dir}
use Rattle.cm_bits.specs.declared.plane.Dir.TheVariants.{North, East, West, South}
use Rattle.cm_model.specs.declared.act.Nano.{Nano}
use Rattle.cm_model.specs.Place.{source}
use Rattle.cm_model.specs.Processor.{NEWS}
use Rattle.cm_model.specs.Chip.{chip_after}
use Rattle.cm_model.specs.Steps.{Step, Instruct, Look, Inject, Cross, Deliver, IsStep}
use Rattle.cm_model.specs.Machine.{Machine}
use Rattle.cm_model.specs.Wiring.{way_of}
use Rattle.cm_model.specs.Buffers.{buffer_after_dimension, after_step}
use Rattle.cm_model.proofs.Each.{same_each}
use Rattle.cm_model.proofs.Incoming.{same_chip}
use Rattle.cm_blocks.specs.Rounds.{is_round, is_vertical}
use Rattle.cm_blocks.specs.Parts.{Part, part, block, block_size, is_within, chip_in, buffer_in}
use Rattle.cm_blocks.specs.Parcels.{Parcel, Blank, due, sender, sender_over}
use Rattle.cm_blocks.specs.Steps.{incoming_in, mail_for, part_after}
use Rattle.cm_blocks.proofs.Cutting.{within-part}
use Rattle.cm_blocks.proofs.Local.{part-injection, part-delivery}
use Rattle.cm_blocks.proofs.Mailing.{block-fits, block-cross, stays_within}
use Rattle.cm_blocks.proofs.News.{IsOver, over, block-instruct}

pub block-step : (n cap k b : ℕ) (machine : Machine) (step : Step) → k ≤ n - n / 2 → b < 2 ^ k → IsStep n step →
    block n k b (after_step n cap machine step)
    ≡ part_after n cap step (due n cap step (block n k (sender n k step b) machine)) (block n k b machine)
unfolding part_after
block-step n cap k b machine (Instruct nano) h l s = block-instruct n cap k b nano machine h l
block-step n cap k b machine Look h l s = refl
block-step n cap k b machine Inject h l s =
    part-injection n cap (b * block_size n k) (block_size n k) machine (due n cap Inject (block n k b machine))
    (block-fits n k b (omega arith) l)
block-step n cap k b machine (Cross d) h l s = block-cross n cap k b d machine (omega arith) l s
block-step n cap k b machine Deliver h l s =
    part-delivery n cap (b * block_size n k) (block_size n k) machine (due n cap Deliver (block n k b machine))
    (block-fits n k b (omega arith) l)

-- ---- steps that are no round

-- at a local instruction over NEWS a block would send to itself
sender-own : (k : ℕ) (dir : Dir) (b : ℕ) → b < 2 ^ k → (not (k == 0) && is_vertical dir) ≡ false
    → sender_over k dir b ≡ b
sender-own k East b l h = refl
sender-own k West b l h = refl
sender-own k North b l h =
    let one : k ≡ 0 = grind (arith, nat_tests) in
    let all : 2 ^ k ≡ 1 = ap (λ (z : ℕ). 2 ^ z) one in
    let own : b ≡ 0 = omega (arith, all, l) in
    (λ i. (own i + 1) % all i) ∙ sym own
sender-own k South b l h =
    let one : k ≡ 0 = grind (arith, nat_tests) in
    let all : 2 ^ k ≡ 1 = ap (λ (z : ℕ). 2 ^ z) one in
    let own : b ≡ 0 = omega (arith, all, l) in
    (λ i. (own i + all i - 1) % all i) ∙ sym own

local_dir : (k : ℕ) (news vertical : Bool) → news ≡ true → (not (k == 0) && (news && vertical)) ≡ false
    → (not (k == 0) && vertical) ≡ false
local_dir k news vertical e h = subst (λ (z : Bool). (not (k == 0) && (z && vertical)) ≡ false) e h

-- what comes in within a block is read there
comes_from_within : (n k b : ℕ) (dir : Dir) (machine : Machine) (place : Place) → k ≤ n - n / 2 → b < 2 ^ k
    → b * block_size n k ≤ place.chip → place.chip < b * block_size n k + block_size n k → place.proc < 16
    → (not (k == 0) && is_vertical dir) ≡ false
    → is_within (block n k b machine) (source n dir place).chip ≡ true
unfolding part
comes_from_within n k b dir machine place h l from below proc local =
    ⊎_elim
    (λ (e : is_within (block n k b machine) (source n dir place).chip ≡ true). e)
    (λ (e : is_within (block n k b machine) (source n dir place).chip ≡ false).
    let far : IsOver n k b dir machine place = over n k b dir machine place h l from below proc e in
    let own : sender_over k dir b ≡ b = sender-own k dir b l local in
    let lower : b * block_size n k ≤ (source n dir place).chip =
    subst (λ (z : ℕ). z * block_size n k ≤ (source n dir place).chip) own far.from in
    let upper : (source n dir place).chip < b * block_size n k + block_size n k =
    subst (λ (z : ℕ). (source n dir place).chip < z * block_size n k + block_size n k) own far.below in
    within-part (block n k b machine) (source n dir place).chip lower upper)
    (cases_Bool (is_within (block n k b machine) (source n dir place).chip))

-- so the parcel does not count
any-bit : (n k b : ℕ) (nano : Nano) (machine : Machine) (parcel other : Parcel) (c p : ℕ) → k ≤ n - n / 2 → b < 2 ^ k
    → b * block_size n k ≤ c → c < b * block_size n k + block_size n k → p < 16 → is_round n k (Instruct nano) ≡ false →
    incoming_in n nano parcel (block n k b machine) c p ≡ incoming_in n nano other (block n k b machine) c p
unfolding incoming_in
any-bit n k b nano machine parcel other c p h l from below proc local =
    ⊎_elim
    (λ (e : (nano.write == NEWS) ≡ true).
    let within : is_within (block n k b machine) (source n nano.dir (record { chip = c; proc = p })).chip ≡ true =
    comes_from_within n k b nano.dir machine (record { chip = c; proc = p }) h l from below proc
    (local_dir k (nano.write == NEWS) (is_vertical nano.dir) e local) in
    rw (e, within) refl)
    (λ (e : (nano.write == NEWS) ≡ false). rw e refl)
    (cases_Bool (nano.write == NEWS))

any-instruction : (n cap k b : ℕ) (nano : Nano) (machine : Machine) (parcel other : Parcel) → k ≤ n - n / 2 → b < 2 ^ k
    → is_round n k (Instruct nano) ≡ false →
    part_after n cap (Instruct nano) parcel (block n k b machine)
    ≡ part_after n cap (Instruct nano) other (block n k b machine)
unfolding part part_after
any-instruction n cap k b nano machine parcel other h l local =
    let s : Part = block n k b machine in
    let chips = same_each [] (b * block_size n k) (block_size n k)
    (λ c. chip_after nano (incoming_in n nano parcel s c) (chip_in s c))
    (λ c. chip_after nano (incoming_in n nano other s c) (chip_in s c))
    (λ i inside. same_chip nano (incoming_in n nano parcel s (b * block_size n k + i))
    (incoming_in n nano other s (b * block_size n k + i)) (chip_in s (b * block_size n k + i))
    (λ p proc takes. any-bit n k b nano machine parcel other (b * block_size n k + i) p h l (omega arith) (omega arith) proc
    local)) in
    λ j. record s { chips = chips j }

any-dimension : (n cap k b d : ℕ) (machine : Machine) (parcel other : Parcel) → d < n - k →
    part_after n cap (Cross d) parcel (block n k b machine) ≡ part_after n cap (Cross d) other (block n k b machine)
unfolding part part_after
any-dimension n cap k b d machine parcel other low =
    let s : Part = block n k b machine in
    let buffers = same_each [] (b * block_size n k) (block_size n k)
    (λ c. buffer_after_dimension (way_of machine.routing c d) cap d (buffer_in s c) (mail_for cap d parcel s c))
    (λ c. buffer_after_dimension (way_of machine.routing c d) cap d (buffer_in s c) (mail_for cap d other s c))
    (λ i inside. let within : is_within s (bit_xor (b * block_size n k + i) (2 ^ d)) ≡ true =
    stays_within n k b d machine i low inside in
    rw within refl) in
    λ j. record s { buffers = buffers j }

any-parcel : (n cap k b : ℕ) (machine : Machine) (step : Step) (parcel other : Parcel) → k ≤ n - n / 2 → b < 2 ^ k
    → is_round n k step ≡ false →
    part_after n cap step parcel (block n k b machine) ≡ part_after n cap step other (block n k b machine)
unfolding part_after
any-parcel n cap k b machine (Instruct nano) parcel other h l local =
    any-instruction n cap k b nano machine parcel other h l local
any-parcel n cap k b machine Look parcel other h l local = refl
any-parcel n cap k b machine Inject parcel other h l local = refl
any-parcel n cap k b machine (Cross d) parcel other h l local =
    let low : d < n - k = grind (arith, nat_tests) in any-dimension n cap k b d machine parcel other low
any-parcel n cap k b machine Deliver parcel other h l local = refl

pub block-local : (n cap k b : ℕ) (machine : Machine) (step : Step) → k ≤ n - n / 2 → b < 2 ^ k → IsStep n step
    → is_round n k step ≡ false →
    block n k b (after_step n cap machine step) ≡ part_after n cap step Blank (block n k b machine)
block-local n cap k b machine step h l s local =
    block-step n cap k b machine step h l s
    ∙ any-parcel n cap k b machine step (due n cap step (block n k (sender n k step b) machine)) Blank h l local
