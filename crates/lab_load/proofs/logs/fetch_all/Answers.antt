use Rattle.std.proofs.Common.{◌≡◌, ◌≢◌, ℕ, ◌+◌, ◌<◌, ◌≤◌, [], List, set, get_or, length, ap, ◌∙◌, arith}
use Rattle.std.proofs.lemmas.List.{length-set, get_or-set_other}
use Rattle.cm_bits.specs.Bit.{bit}
use Rattle.cm_model.specs.Processor.{Processor, RECV}
use Rattle.cm_model.specs.Array.{Chips, chip_at}
use Rattle.cm_model.proofs.Each.{is_each}
use Rattle.cm_element.specs.Wide.{with_flag_plane}
use Rattle.lab_load.proofs.Emptying.{written}
use Rattle.lab_load.proofs.logs.fetch_all.Goals as goal

module _ (was now new : Chips) (c : ℕ) (inside : c < length now)
    (put : new ≡ set now c (with_flag_plane (chip_at now c) RECV (bit 0)))
    (rest : (k : ℕ) → c ≤ k → chip_at now k ≡ chip_at was k) where
  done_more : ((k : ℕ) (d : List Processor) → k < c → get_or now k d ≡ with_flag_plane (chip_at was k) RECV (bit 0))
      → (k : ℕ) (d : List Processor) → k < c + 1 → get_or new k d ≡ with_flag_plane (chip_at was k) RECV (bit 0)
  done_more done k d l =
      ap (λ (chips : Chips). get_or chips k d) put
      ∙ written (λ (j : ℕ) (chip : List Processor). chip ≡ with_flag_plane (chip_at was j) RECV (bit 0)) now c
      (with_flag_plane (chip_at now c) RECV (bit 0)) inside
      (ap (λ (chip : List Processor). with_flag_plane chip RECV (bit 0)) (rest c (omega arith))) done k d l

  rest_more : (k : ℕ) → c + 1 ≤ k → chip_at new k ≡ chip_at was k
  rest_more k h =
      let other : k ≢ c = omega arith in
      ap (λ (chips : Chips). chip_at chips k) put
      ∙ (get_or-set_other now c k (with_flag_plane (chip_at now c) RECV (bit 0)) [] other ∙ rest k (omega arith))

pub loop-chip-preserved : goal.loop-chip-preserved
loop-chip-preserved c =
    let now = c.loop-chip.run in
    let new = c.poke_flag_plane.new.self in
    let inside : c.loop-chip.chip < length now = omega (arith, c.loop-chip.invariant.count, c.requires.count) in
    record {
      done = done_more c.args.run.now now new c.loop-chip.chip inside c.poke_flag_plane.ensures.value
          c.loop-chip.invariant.rest c.loop-chip.invariant.done;
      rest = rest_more c.args.run.now now new c.loop-chip.chip inside c.poke_flag_plane.ensures.value
          c.loop-chip.invariant.rest;
      count = ap length c.poke_flag_plane.ensures.value
          ∙ (length-set now c.loop-chip.chip (with_flag_plane (chip_at now c.loop-chip.chip) RECV (bit 0))
          ∙ c.loop-chip.invariant.count);
    }

pub returns : goal.returns
returns c = record {
  value = is_each [] c.args.chips (λ k. with_flag_plane (chip_at c.args.run.now k) RECV (bit 0)) c.loop-chip.run
      (c.loop-chip.invariant.count ∙ c.requires.count)
      (λ k h. c.loop-chip.invariant.done k [] (omega (arith, h)));
}
