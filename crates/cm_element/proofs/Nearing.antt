-- Chips that are kept in another run, and what is put into them.
use Rattle.std.proofs.Common.{◌≡◌, ◌⊎◌, ℕ, ◌+◌, ◌-◌, ◌<◌, ◌≤◌, ◌++◌, List, [], ◌∷◌, length, get_or, set, take, drop, refl}
use Rattle.std.proofs.Common.{sym, ap, ◌∙◌, ⊎_elim, arith, length-take, length-drop, length-set, ext_get_or}
use Rattle.std.proofs.lemmas.Bool.{cases_lt}
use Rattle.std.proofs.lemmas.List.{get_or-take, get_or-drop, get_or_append_left, get_or-append_right, set-append_left}
use Rattle.std.proofs.lemmas.List.{set-append_right, length-append, take-append-drop}
use Rattle.cm_model.specs.Processor.{Processor}
use Rattle.cm_model.specs.Array.{Chips, chip_at}
use Rattle.cm_element.specs.Laid.{AreLaid}
use Rattle.cm_element.specs.Near.{AreNear, with_near}

front_long : (far near : Chips) (first width chips : ℕ) → AreNear far near first width chips
    → length (take first far) ≡ first
front_long far near first width chips is = omega (arith, length-take first far, is.far_count, is.within)

pub length-with_near : (far near : Chips) (first width chips : ℕ) → AreNear far near first width chips
    → length (with_near far near first) ≡ chips
unfolding with_near
length-with_near far near first width chips is =
    let rest : Chips = drop (first + length near) far in
    omega (
      arith,
      length-append (take first far) (near ++ rest),
      length-append near rest,
      length-drop (first + length near) far,
      front_long far near first width chips is,
      is.far_count,
      is.near_count,
      is.within,
    )

-- a chip before those that are near, one of them, and one behind them
chip-below : (far near : Chips) (first width chips c : ℕ) → AreNear far near first width chips → c < first
    → chip_at (with_near far near first) c ≡ chip_at far c
unfolding with_near
chip-below far near first width chips c is h =
    get_or_append_left (take first far) (near ++ drop (first + length near) far) [] c
    (omega (arith, h, front_long far near first width chips is))
    ∙ get_or-take first far c [] h

chip-near : (far near : Chips) (first width chips k c : ℕ) → AreNear far near first width chips → k < width
    → first + k ≡ c
    → chip_at (with_near far near first) c ≡ chip_at near k
unfolding with_near
chip-near far near first width chips k c is h place =
    let rest : Chips = drop (first + length near) far in
    let there : c - first ≡ k = omega arith in
    get_or-append_right (take first far) (near ++ rest) first c []
    (front_long far near first width chips is) (omega arith)
    ∙ (ap (λ (i : ℕ). get_or (near ++ rest) i []) there
    ∙ get_or_append_left near rest [] k (omega (arith, h, is.near_count)))

chip-above : (far near : Chips) (first width chips c : ℕ) → AreNear far near first width chips → first + width ≤ c
    → chip_at (with_near far near first) c ≡ chip_at far c
unfolding with_near
chip-above far near first width chips c is h =
    let rest : Chips = drop (first + length near) far in
    let there : first + length near + (c - first - width) ≡ c = omega (arith, h, is.near_count) in
    get_or-append_right (take first far) (near ++ rest) first c []
    (front_long far near first width chips is) (omega arith)
    ∙ (get_or-append_right near rest width (c - first) [] is.near_count (omega arith)
    ∙ (get_or-drop (first + length near) far (c - first - width) [] ∙ ap (λ (i : ℕ). get_or far i []) there))

-- they are all chips of a run that has the same ones
pub near_is : (far near all : Chips) (first width chips : ℕ) → AreNear far near first width chips → length all ≡ chips
    → ((c : ℕ) → c < width → chip_at near c ≡ chip_at all (first + c))
    → ((c : ℕ) → c < first → chip_at far c ≡ chip_at all c)
    → ((c : ℕ) → first + width ≤ c → chip_at far c ≡ chip_at all c)
    → with_near far near first ≡ all
near_is far near all first width chips is long middle below above =
    ext_get_or [] (with_near far near first) all (length-with_near far near first width chips is ∙ sym long)
    (λ c h. ⊎_elim
    (λ (l : c < first). chip-below far near first width chips c is l ∙ below c l)
    (λ (l : first ≤ c). ⊎_elim
    (λ (m : c < first + width). let place : first + (c - first) ≡ c = omega arith in
    chip-near far near first width chips (c - first) c is (omega arith) place
    ∙ (middle (c - first) (omega arith) ∙ ap (λ (i : ℕ). get_or all i []) place))
    (λ (m : first + width ≤ c). chip-above far near first width chips c is m ∙ above c m)
    (cases_lt c (first + width)))
    (cases_lt c first))

-- the run into which the near chips went back
pub gone_back : (far near new : Chips) (first width chips : ℕ) → AreNear far near first width chips
    → AreLaid first 0 width near far new → with_near far near first ≡ new
gone_back far near new first width chips is laid =
    near_is far near new first width chips is (laid.chips ∙ is.far_count)
    (λ c h. let same : c ≡ 0 + c = omega arith in ap (λ (i : ℕ). chip_at near i) same ∙ sym (laid.laid c h))
    (λ c h. sym (laid.below c h)) (λ c h. sym (laid.above c h))

-- chips that were laid near are those of the run
pub come : (far old near : Chips) (first width chips : ℕ) → AreNear far near first width chips
    → AreLaid 0 first width far old near → with_near far near first ≡ far
come far old near first width chips is laid =
    near_is far near far first width chips is is.far_count
    (λ c h. let same : c ≡ 0 + c = omega arith in ap (λ (i : ℕ). chip_at near i) same ∙ laid.laid c h)
    (λ c h. refl) (λ c h. refl)

-- a chip that is set among the near ones
pub near_set : (far near new : Chips) (first width chips k c : ℕ) (chip : List Processor)
    → AreNear far near first width chips → k < width → first + k ≡ c → new ≡ set near k chip
    → with_near far new first ≡ set (with_near far near first) c chip
unfolding with_near
near_set far near new first width chips k c chip is h place told =
    let rest : Chips = drop (first + length near) far in
    let there : c - first ≡ k = omega arith in
    let long : length new ≡ length near = ap length told ∙ length-set near k chip in
    (λ i. take first far ++ (told i ++ drop (first + long i) far))
    ∙ sym (set-append_right (take first far) (near ++ rest) first c chip
    (front_long far near first width chips is) (omega arith)
    ∙ ap (λ (xs : Chips). take first far ++ xs) (ap (λ (i : ℕ). set (near ++ rest) i chip) there
    ∙ set-append_left near rest k chip (omega (arith, h, is.near_count))))

-- with what is put into it
pub near_put : (far near new : Chips) (first width chips k c : ℕ) (put : List Processor → List Processor)
    → AreNear far near first width chips → k < width → first + k ≡ c → new ≡ set near k (put (chip_at near k))
    → with_near far new first ≡ set (with_near far near first) c (put (chip_at (with_near far near first) c))
near_put far near new first width chips k c put is h place told =
    near_set far near new first width chips k c (put (chip_at near k)) is h place told
    ∙ ap (λ (v : List Processor). set (with_near far near first) c (put v))
    (sym (chip-near far near first width chips k c is h place))

-- a chip of the run that stays as it is
same_chip : (far near new : Chips) (first width chips c : ℕ) → AreNear far near first width chips
    → AreNear new near first width chips → chip_at new c ≡ chip_at far c
    → chip_at (with_near new near first) c ≡ chip_at (with_near far near first) c
same_chip far near new first width chips c is is_new same = ⊎_elim
    (λ (l : c < first). chip-below new near first width chips c is_new l
    ∙ (same ∙ sym (chip-below far near first width chips c is l)))
    (λ (l : first ≤ c). ⊎_elim
    (λ (m : c < first + width). let place : first + (c - first) ≡ c = omega arith in
    chip-near new near first width chips (c - first) c is_new (omega arith) place
    ∙ sym (chip-near far near first width chips (c - first) c is (omega arith) place))
    (λ (m : first + width ≤ c). chip-above new near first width chips c is_new m
    ∙ (same ∙ sym (chip-above far near first width chips c is m)))
    (cases_lt c (first + width)))
    (cases_lt c first)

-- chips that were laid into the run, where none of them is near
pub far_laid : (far near new from : Chips) (first width chips at count : ℕ) → AreNear far near first width chips
    → (at + count ≤ first) ⊎ (first + width ≤ at) → AreLaid at 0 count from far new
    → AreLaid at 0 count from (with_near far near first) (with_near new near first)
far_laid far near new from first width chips at count is apart laid =
    let is_new : AreNear new near first width chips = record {
      far_count = laid.chips ∙ is.far_count;
      near_count = is.near_count;
      within = is.within;
      some = is.some;
    } in
    record {
      chips = length-with_near new near first width chips is_new ∙ sym (length-with_near far near first width chips is);
      laid = λ c h. ⊎_elim
          (λ (l : at + count ≤ first). chip-below new near first width chips (at + c) is_new (omega arith))
          (λ (l : first + width ≤ at). chip-above new near first width chips (at + c) is_new (omega arith))
          apart ∙ laid.laid c h;
      below = λ c h. same_chip far near new first width chips c is is_new (laid.below c h);
      above = λ c h. same_chip far near new first width chips c is is_new (laid.above c h);
    }

no_chips : (from : Chips) → length from ≡ 0 → from ≡ []
no_chips [] none = refl
no_chips (chip ∷ from) none = absurd (omega arith)

-- a run into which these chips were laid has them in their places
pub laid_is : (at count : ℕ) (from old new : Chips) → length from ≡ count → at + count ≤ length old
    → AreLaid at 0 count from old new → new ≡ with_near old from at
unfolding with_near
laid_is at count from old new long inside laid = ⊎_elim
    (λ (some : 0 < count). let is : AreNear old from at count (length old) = record {
      far_count = refl;
      near_count = long;
      within = inside;
      some = λ h. some;
    } in
    sym (near_is old from new at count (length old) is laid.chips
    (λ c h. let same : 0 + c ≡ c = omega arith in ap (λ (i : ℕ). chip_at from i) (sym same) ∙ sym (laid.laid c h))
    (λ c h. sym (laid.below c h)) (λ c h. sym (laid.above c h))))
    (λ (none : count ≤ 0).
    let empty : from ≡ [] = no_chips from (omega (arith, long, none)) in
    let end : at + 0 ≡ at = omega arith in
    ext_get_or [] new old laid.chips (λ c h. ⊎_elim (λ (l : c < at). laid.below c l)
    (λ (l : at ≤ c). laid.above c (omega (arith, l, none))) (cases_lt c at))
    ∙ (sym (take-append-drop at old)
    ∙ (ap (λ (k : ℕ). take at old ++ drop k old) (sym end)
    ∙ ap (λ (xs : Chips). take at old ++ (xs ++ drop (at + length xs) old)) (sym empty))))
    (cases_lt 0 count)
