-- What comes in over NEWS and DAISY, told by planes of outputs; and that it counts only there.
use Rattle.std.proofs.Common.{◌≡◌, ℕ, ◌-◌, ◌^◌, ◌<◌, ◌==◌, Bool, true, false, List, slice_index, refl, ap, ◌∙◌, arith}
use Rattle.std.proofs.Common.{⊎_elim, Option, Some, None}
use Rattle.std.proofs.lemmas.Bool.{cases_Bool}
use Rattle.cm_bits.specs.Bit.{bit}
use Rattle.cm_bits.specs.declared.place.Place.{Place}
use Rattle.cm_model.specs.declared.act.Nano.{Nano}
use Rattle.cm_model.specs.Laws.{IsPlace}
use Rattle.cm_model.specs.Place.{source, opposite, predecessor}
use Rattle.cm_model.specs.Processor.{Processor}
use Rattle.cm_model.specs.Instruction.{flag_output, takes_incoming, processor_after}
use Rattle.cm_model.specs.Chip.{chip_after, processor_at, no_processor}
use Rattle.cm_model.specs.Array.{Chips, chip_at, incoming}
use Rattle.cm_model.proofs.Each.{same_each_below}
use Rattle.cm_model.proofs.Torus.{neighbours_lead_back}

same_processor : (nano : Nano) (x y : Bool) (processor : Processor) → (takes_incoming nano ≡ true → x ≡ y)
    → processor_after nano x processor ≡ processor_after nano y processor
unfolding processor_after
same_processor nano x y processor same =
    ⊎_elim (λ (e : takes_incoming nano ≡ true). ap (λ (v : Bool). processor_after nano v processor) (same e))
    (λ (e : takes_incoming nano ≡ false). rw e refl)
    (cases_Bool (takes_incoming nano))

-- what comes in counts only where the instruction writes NEWS or DAISY
pub same_chip : (nano : Nano) (x y : ℕ → Bool) (chip : List Processor)
    → ((p : ℕ) → p < 16 → takes_incoming nano ≡ true → x p ≡ y p) → chip_after nano x chip ≡ chip_after nano y chip
unfolding chip_after
same_chip nano x y chip same =
    same_each_below no_processor 16 (λ p. processor_after nano (x p) (processor_at chip p))
    (λ p. processor_after nano (y p) (processor_at chip p))
    (λ p h. same_processor nano (x p) (y p) (processor_at chip p) (same p h))

-- the planes have the flag output of every place
pub record AreFlagOutputs (n : ℕ) (nano : Nano) (chips : Chips) (planes : List ℕ) : Type 0 where
  pub each : (c p : ℕ) → c < 2 ^ n → p < 16
      → bit (slice_index planes c) p ≡ flag_output nano (processor_at (chip_at chips c) p)

-- over NEWS the bit of the place whose neighbour this is
pub over_news : (n : ℕ) (nano : Nano) (chips : Chips) (planes : List ℕ) (c p : ℕ) → AreFlagOutputs n nano chips planes
    → c < 2 ^ n → p < 16 → (nano.write == 10) ≡ true
    → bit (slice_index planes (source n nano.dir (record { chip = c; proc = p })).chip)
    (source n nano.dir (record { chip = c; proc = p })).proc ≡ incoming n nano chips c p
unfolding incoming
over_news n nano chips planes c p are inside h news =
    let place : Place = record { chip = c; proc = p } in
    let within : IsPlace n (source n nano.dir place) =
    (neighbours_lead_back n (opposite nano.dir) place (record { chip = inside; proc = h })).within in
    rw news (are.each (source n nano.dir place).chip (source n nano.dir place).proc within.chip within.proc)

-- along the chain the bit of the predecessor, where `sent` reads the chip's own plane
pub along_chain : (n : ℕ) (nano : Nano) (chips : Chips) (planes : List ℕ) (c p : ℕ) (sent : Option ℕ → Bool)
    → AreFlagOutputs n nano chips planes → c < 2 ^ n → p < 16 → (nano.write == 10) ≡ false
    → sent None ≡ false → ((q : ℕ) → sent (Some q) ≡ bit (slice_index planes c) q)
    → sent (predecessor p) ≡ incoming n nano chips c p
unfolding incoming
along_chain n nano chips planes c p sent are inside h other none some =
    rw other (⊎_elim
    (λ (e : (p == 0) ≡ true). rw e none)
    (λ (e : (p == 0) ≡ false). rw e (some (p - 1) ∙ are.each c (p - 1) inside (omega arith)))
    (cases_Bool (p == 0)))
