-- A stretch that grows by one act.
use Rattle.std.proofs.Common.{◌≡◌, ℕ, ◌+◌, ◌^◌, ◌<◌, ◌≤◌, ◌⊎◌, inl, inr, ◌&&◌, Bool, true, false, cond, IsFalse, List, length, take}
use Rattle.std.proofs.Common.{slice_index_or, ap, ◌∙◌, sym, arith}
use Rattle.std.proofs.lemmas.Bool.{cases_lt}
use Rattle.std.proofs.lemmas.Bool.Decides.{nat_tests}
use Rattle.std.proofs.lemmas.Grind.{common_steps}
use Rattle.std.proofs.lemmas.List.Sums.{sum_by_more}
use Rattle.cm_model.specs.declared.act.Act.{Act}
use Rattle.cm_model.specs.declared.act.Act.TheVariants.{Cycle}
use Rattle.cm_array.specs.Acts.{cycles_in, is_cycle, is_long}
use Rattle.cm_session.specs.Stretches.{is_look, looks_at, IsStretch}
use Rattle.cm_debug.specs.Longest.{IsLongest}

-- what a runner takes at once
record IsShort (acts : List Act) : Type 0 where
  few_acts : length acts ≤ 4096
  few : cycles_in acts ≤ 64

is_short : (acts : List Act) → IsFalse (is_long acts) → IsShort acts
is_short acts short = record { few_acts = grind (arith, nat_tests); few = grind (arith, nat_tests) }

-- petit cycles in one act more
pub one_more : (acts : List Act) (count : ℕ) (act : Act) → count < length acts → act ≡ slice_index_or acts count act
    → cycles_in (take (count + 1) acts) ≡ cycles_in (take count acts) + cond (is_cycle act) 1 0
one_more acts count act inside is = sum_by_more (λ a. cond (is_cycle a) 1 0) acts count act inside
    ∙ ap (λ (a : Act). cycles_in (take count acts) + cond (is_cycle a) 1 0) (sym is)

any_other : (acts : List Act) (i : ℕ) (act : Act) → i < length acts
    → slice_index_or acts i Cycle ≡ slice_index_or acts i act
any_other acts i act inside = grind (arith, common_steps)

same_act : (acts : List Act) (i count : ℕ) → i < count
    → slice_index_or (take count acts) i Cycle ≡ slice_index_or acts i Cycle
same_act acts i count inside = grind (arith, common_steps)

-- an act that is not told, not stopped at, and has room
pub grows : (stops : ℕ → Bool) (report : Bool) (position clock : ℕ) (acts : List Act) (count : ℕ) (act : Act)
    → count < length acts
    → act ≡ slice_index_or acts count act → IsStretch stops report position clock (take count acts)
    → (report && is_look act) ≡ false
    → stops (position + count) ≡ false → clock + (cycles_in (take count acts) + cond (is_cycle act) 1 0) < 2 ^ 63
    → IsStretch stops report position clock (take (count + 1) acts)
grows stops report position clock acts count act inside found stretch silent goes room = record {
  silent = λ i some within. by_silent i some within (cases_lt i count);
  goes = λ i some within. by_goes i some within (cases_lt i count);
  room = omega (arith, room, one_more acts count act inside found);
} where
  longer : length (take (count + 1) acts) ≡ count + 1
  longer = grind (arith, common_steps)

  shorter : length (take count acts) ≡ count
  shorter = grind (arith, common_steps)

  by_silent : (i : ℕ) → 0 < i → i < length (take (count + 1) acts) → (i < count) ⊎ (count ≤ i)
      → (report && looks_at (take (count + 1) acts) i) ≡ false
  by_silent i some within (inl before) =
      ap (λ (act : Act). report && is_look act)
      (same_act acts i (count + 1) (omega arith) ∙ sym (same_act acts i count before))
      ∙ stretch.silent i some (omega (arith, shorter))
  by_silent i some within (inr last) =
      let is : i ≡ count = omega (arith, longer) in
      ap (λ (act : Act). report && is_look act) (same_act acts i (count + 1) (omega arith))
      ∙ ap (λ (k : ℕ). report && is_look (slice_index_or acts k Cycle)) is
      ∙ ap (λ (a : Act). report && is_look a) (any_other acts count act inside ∙ sym found) ∙ silent

  by_goes : (i : ℕ) → 0 < i → i < length (take (count + 1) acts) → (i < count) ⊎ (count ≤ i)
      → stops (position + i) ≡ false
  by_goes i some within (inl before) = stretch.goes i some (omega (arith, shorter))
  by_goes i some within (inr last) =
      let is : i ≡ count = omega (arith, longer) in
      ap (λ (k : ℕ). stops (position + k)) is ∙ goes

-- one act that has room
pub begins : (stops : ℕ → Bool) (report : Bool) (position clock : ℕ) (acts : List Act) → 0 < length acts
    → clock + cycles_in (take 1 acts) < 2 ^ 63 → IsStretch stops report position clock (take 1 acts)
begins stops report position clock acts some room = record {
  silent = λ i above within. absurd (omega (arith, longer));
  goes = λ i above within. absurd (omega (arith, longer));
  room = room;
} where
  longer : length (take 1 acts) ≡ 1
  longer = grind (arith, common_steps)

-- an act at which a stretch ends: it is told, or stopped at, or has no room
abbrev pub EndsStretch : (ℕ → Bool) → Bool → ℕ → ℕ → ℕ → ℕ → Act → Type 0
EndsStretch stops report position clock count cycles act =
    ((report && is_look act) ≡ true) ⊎ (stops (position + count) ≡ true)
    ⊎ (64 < cycles + cond (is_cycle act) 1 0) ⊎ (2 ^ 63 ≤ clock + (cycles + cond (is_cycle act) 1 0))

-- behind so many acts none can follow
pub ends_here : (stops : ℕ → Bool) (report : Bool) (position clock : ℕ) (acts : List Act) (count cycles : ℕ) (act : Act)
    → 0 < count → count < length acts → act ≡ slice_index_or acts count act
    → cycles ≡ cycles_in (take count acts) → EndsStretch stops report position clock count cycles act
    → IsLongest stops report position clock acts count
ends_here stops report position clock acts count cycles act some inside found counted ends below short stretch =
    by_end ends
  where
    longer : length (take (count + 1) acts) ≡ count + 1
    longer = grind (arith, common_steps)

    last : slice_index_or (take (count + 1) acts) count Cycle ≡ act
    last = same_act acts count (count + 1) (omega arith) ∙ any_other acts count act inside ∙ sym found

    by_end : EndsStretch stops report position clock count cycles act → ⊥
    by_end (inl told) =
        let silent = stretch.silent count some (omega (arith, longer)) in
        let wrong : true ≡ false = sym told ∙ sym (ap (λ (a : Act). report && is_look a) last) ∙ silent in cc
    by_end (inr (inl stopped)) =
        let goes = stretch.goes count some (omega (arith, longer)) in
        let wrong : true ≡ false = sym stopped ∙ goes in cc
    by_end (inr (inr (inl many))) =
        let more = one_more acts count act inside found in
        let few = (is_short (take (count + 1) acts) short).few in
        omega (arith, more, many, few, counted)
    by_end (inr (inr (inr late))) =
        let more = one_more acts count act inside found in
        let room = stretch.room in
        omega (arith, more, late, room, counted)
