use Rattle.std.proofs.Common.{◌≡◌, ◌≢◌, ◌+◌, ◌*◌, ◌/◌, ◌%◌, ◌<◌, ◌≤◌, ℕ, List, length, get_or, refl, sym, ap, ◌∙◌}
use Rattle.std.proofs.Common.{⊎_elim, arith}
use Rattle.std.proofs.lemmas.Bool.{cases_lt, eqb-true}
use Rattle.std.proofs.lemmas.List.FromFn.{get_or-map-range_with_len}
use Rattle.cm_image_load.proofs.Judging.{off_before, due_now, length-off_of, least_before, least_now, length-least_of}
use Rattle.cm_image_load.proofs.Judging.{none_off, none_zero, listed_here, number_moved}
use Rattle.cm_image_load.proofs.waiting_chips.take_planes.Goals as goal

pub loop-k-preserved : goal.loop-k-preserved
loop-k-preserved c =
    let now = c.loop-k.invariant in
    let k : ℕ = c.loop-k.k in
    let at : ℕ = k * 8 in
    let place : ℕ = c.args.place in
    let bytes : List ℕ = c.args.bytes.now in
    let off : List ℕ = c.loop-k.off in
    let least : List ℕ = c.loop-k.least in
    let read : List ℕ = c.listings_at.result.0 in
    let listed : List ℕ = c.listings_at.result.1 in
    let due : List ℕ = c.eight_from.result in
    let eight = c.listings_at.ensures.eight in
    let put = c.put_words.ensures in
    let later : List ℕ = c.put_words.new.list in
    let due_long : length due ≡ 8 = ap length c.eight_from.ensures.value in
    let due_at : (j : ℕ) → j < 8 → get_or due j 0 ≡ at + j =
    λ j h. ap (λ (l : List ℕ). get_or l j 0) c.eight_from.ensures.value
    ∙ get_or-map-range_with_len (λ n. at + n) 0 8 j j 0 h (omega arith) in
    let kept : (m j : ℕ) → m < k → j < 8
    → get_or later (place + (8 * m + j)) 0 ≡ get_or c.loop-k.memory (place + (8 * m + j)) 0 =
    λ m j l h. put.below (place + (8 * m + j)) (omega (arith, l, h)) in
    let here : (m j n : ℕ) → m ≡ k → j < 8 → n ≡ place + (8 * m + j) → get_or later n 0 ≡ get_or listed j 0 =
    λ m j n same h is. let there : n ≡ place + at + j = omega (arith, same, is) in
    ap (λ (i : ℕ). get_or later i 0) there ∙ put.value j h in
    record {
      lanes = (
        length-off_of off read due now.lanes.0 eight.0 due_long,
        length-least_of least listed now.lanes.1 eight.1,
      );
      addresses = λ m j before h none. ⊎_elim
          (λ (l : m < k). now.addresses m j l h (off_before off read due j now.lanes.0 eight.0 due_long h none))
          (λ (l : k ≤ m). number_moved bytes _ (4 * at + 4 * j) _ (4 * at + 4 * j + 2) (get_or read j 0) (8 * m + j)
          (omega (arith, l, before)) (omega (arith, l, before))
          (due_now off read due j now.lanes.0 eight.0 due_long h (c.listings_at.ensures.words j h)
          (omega (arith, due_at j h, h)) none
          ∙ due_at j h ∙ omega (arith, l, before))
          (c.listings_at.ensures.address j h))
          (cases_lt m k);
      planes = λ m j before h. ⊎_elim
          (λ (l : m < k). number_moved bytes _ _ _ _ _ _ refl refl (sym (kept m j l h)) (now.planes m j l h))
          (λ (l : k ≤ m). number_moved bytes _ (4 * at + 4 * j + 2) _ (4 * at + 4 * (j + 1)) (get_or listed j 0) _
          (omega (arith, l, before)) (omega (arith, l, before))
          (sym (here m j (place + (8 * m + j)) (omega (arith, l, before)) h refl))
          (c.listings_at.ensures.plane j h))
          (cases_lt m k);
      least = λ m j before h. ⊎_elim
          (λ (l : m < k). omega (
            arith,
            kept m j l h,
            now.least m j l h,
            least_before least listed j now.lanes.1 eight.1 h,
          ))
          (λ (l : k ≤ m). omega (
            arith,
            here m j (place + (8 * m + j)) (omega (arith, l, before)) h refl,
            least_now least listed j now.lanes.1 eight.1 h,
          ))
          (cases_lt m k);
      below = λ i h. put.below i (omega (arith, h)) ∙ now.below i h;
    }

pub returns-then-off-none-eq0-clause-full : goal.returns-then-off-none-eq0-clause-full
returns-then-off-none-eq0-clause-full c = λ no_zero a h.
    let now = c.loop-k.invariant in
    let bytes : List ℕ = c.args.bytes.now in
    let m : ℕ = a / 8 in
    let j : ℕ = a % 8 in
    let lane : j < 8 = omega arith in
    let step : m < c.loop-k.k = omega (arith, h, c.loop-k-test.false, c.from-k-end.ensures) in
    let whole : a ≡ 8 * m + j = omega arith in
    let plane : ℕ → ℕ = λ n. get_or c.loop-k.memory (c.args.place + n) 0 in
    let off : get_or c.loop-k.off j 0 ≡ 0 = none_off c.loop-k.off now.lanes.0 c.if-off-none-eq0.true j lane in
    let some : get_or c.loop-k.least j 0 ≢ 0 =
    none_zero c.loop-k.least now.lanes.1 (eqb-true _ _ no_zero) j lane in
    listed_here bytes a (plane a) h
    (λ zero. some (omega (arith, now.least m j step lane, ap plane (sym whole), zero)))
    (number_moved bytes _ _ _ _ _ _ (ap (λ (n : ℕ). 4 * n) whole) (ap (λ (n : ℕ). 4 * n + 2) whole) (sym whole)
    (now.addresses m j step lane off))
    (number_moved bytes _ _ _ _ _ _ (ap (λ (n : ℕ). 4 * n + 2) whole) (ap (λ (n : ℕ). 4 * (n + 1)) whole)
    (ap plane (sym whole)) (now.planes m j step lane))
