-- What a dimension step makes of a chip's queue, whoever leaves: the stayers, and then those that come.
use Rattle.std.proofs.Common.{◌≡◌, ℕ, ◌+◌, ◌^◌, Bool, true, false, not, List, [], ◌∷◌, ◌++◌, map, refl, sym}
use Rattle.std.proofs.Common.{◌∙◌, ap, ⊎_elim}
use Rattle.std.proofs.lemmas.Bool.{cases_Bool}
use Rattle.std.specs.Prelude.{bit_xor, if◌then◌else◌}
use Rattle.std.specs.List.{filter}
use Rattle.cm_model.specs.Wiring.{Routing}
use Rattle.cm_model.specs.Router.{Since, Standing, is_at, is_before, standing_at, target}
use Rattle.cm_model.specs.Router.{leaves, record_across, after_dimension}
use Rattle.cm_model.specs.Order.{put, in_order, queue}
use Rattle.cm_model.proofs.Flips.{across_is, xor_across}
use Rattle.cm_model.proofs.Order.{AllBefore, NoneBefore, IsSorted-in_order, before_itself, filter-put_yes}
use Rattle.cm_model.proofs.Order.{filter-put_no, put-append, put_last, put_front, not_both_before}

abbrev pub time_across : ℕ → ℕ → Since
time_across d cycle = record { cycle = cycle; turn = 16 + d }

-- those that come in a dimension step
abbrev pub comers : (Standing → Bool) → ℕ → ℕ → List Standing → List Standing
comers leaves d cycle records = map (record_across d cycle) (filter leaves records)

abbrev pub step_of_record : (Standing → Bool) → ℕ → ℕ → Standing → Standing
step_of_record leaves d cycle r = if leaves r then record_across d cycle r else r

none_before-comers : (s : Since) (leaves : Standing → Bool) (d cycle : ℕ) (rs : List Standing)
    → is_before (time_across d cycle) s ≡ false → NoneBefore s (comers leaves d cycle rs)
none_before-comers s leaves d cycle [] h = tt
none_before-comers s leaves d cycle (r ∷ rs) h =
    ⊎_elim (λ (e : leaves r ≡ true). rw e (h, none_before-comers s leaves d cycle rs h))
    (λ (e : leaves r ≡ false). rw e (none_before-comers s leaves d cycle rs h)) (cases_Bool (leaves r))

pub AllBefore-filter : (p : Standing → Bool) (s : Since) (xs : List Standing) → AllBefore s xs
    → AllBefore s (filter p xs)
AllBefore-filter p s [] h = tt
AllBefore-filter p s (x ∷ xs) h =
    ⊎_elim (λ (e : p x ≡ true). rw e (h.0, AllBefore-filter p s xs h.1))
    (λ (e : p x ≡ false). rw e (AllBefore-filter p s xs h.1)) (cases_Bool (p x))

pub AllBefore-put : (s : Since) (r : Standing) (xs : List Standing) → is_before r.since s ≡ true → AllBefore s xs
    → AllBefore s (put r xs)
AllBefore-put s r [] h k = (h, tt)
AllBefore-put s r (x ∷ xs) h k =
    ⊎_elim (λ (e : is_before x.since r.since ≡ true). rw e (k.0, AllBefore-put s r xs h k.1))
    (λ (e : is_before x.since r.since ≡ false). rw e (h, k)) (cases_Bool (is_before x.since r.since))

pub AllBefore-in_order : (s : Since) (xs : List Standing) → AllBefore s xs → AllBefore s (in_order xs)
AllBefore-in_order s [] h = tt
AllBefore-in_order s (x ∷ xs) h = AllBefore-put s x (in_order xs) h.0 (AllBefore-in_order s xs h.1)

-- one record more, which stays elsewhere or here, or leaves from elsewhere or from across
pub queue-crossed : (leaves : Standing → Bool) (d cycle c : ℕ) (set : List Standing)
    → AllBefore (time_across d cycle) set →
    queue c (map (step_of_record leaves d cycle) set) ≡ filter (λ r. not (leaves r)) (queue c set) ++ comers leaves d
    cycle (standing_at (bit_xor c (2 ^ d)) set)
unfolding queue
queue-crossed leaves d cycle c [] h = refl
queue-crossed leaves d cycle c (r ∷ set) h =
    let ih : in_order (standing_at c (map (step_of_record leaves d cycle) set)) ≡ filter (λ q. not (leaves q))
    (in_order (standing_at c set)) ++ comers leaves d cycle (standing_at (bit_xor c (2 ^ d)) set) =
    queue-crossed leaves d cycle c set h.1 in
    let others : AllBefore (time_across d cycle) (filter (λ q. not (leaves q)) (in_order (standing_at c set))) =
    AllBefore-filter (λ q. not (leaves q)) (time_across d cycle) (in_order (standing_at c set))
    (AllBefore-in_order (time_across d cycle) (standing_at c set)
    (AllBefore-filter (is_at c) (time_across d cycle) set h.1)) in
    ⊎_elim
    (λ (l : leaves r ≡ true).
    let stay : not (leaves r) ≡ false = ap not l in
    let same : filter (λ q. not (leaves q)) (in_order (standing_at c (r ∷ set))) ≡ filter (λ q. not (leaves q))
    (in_order (standing_at c set)) =
    ⊎_elim (λ (a : is_at c r ≡ true). rw a (filter-put_no (λ q. not (leaves q)) r (in_order (standing_at c set)) stay))
    (λ (a : is_at c r ≡ false). rw a refl) (cases_Bool (is_at c r)) in
    ⊎_elim
    (λ (a : is_at (bit_xor c (2 ^ d)) r ≡ true).
    rw (same, l, across_is r.chip c (2 ^ d), a, l)
    (ap (put (record_across d cycle r)) ih
    ∙ (put_last (record_across d cycle r) (filter (λ q. not (leaves q)) (in_order (standing_at c set)))
    (comers leaves d cycle (standing_at (bit_xor c (2 ^ d)) set)) others
    ∙ ap (λ z. filter (λ q. not (leaves q)) (in_order (standing_at c set)) ++ z)
    (put_front (record_across d cycle r) (comers leaves d cycle (standing_at (bit_xor c (2 ^ d)) set))
    (none_before-comers (time_across d cycle) leaves d cycle (standing_at (bit_xor c (2 ^ d)) set)
    (before_itself (time_across d cycle)))))))
    (λ (a : is_at (bit_xor c (2 ^ d)) r ≡ false). rw (same, l, across_is r.chip c (2 ^ d), a) ih)
    (cases_Bool (is_at (bit_xor c (2 ^ d)) r)))
    (λ (l : leaves r ≡ false).
    let stay : not (leaves r) ≡ true = ap not l in
    let come : comers leaves d cycle (standing_at (bit_xor c (2 ^ d)) (r ∷ set)) ≡ comers leaves d cycle
    (standing_at (bit_xor c (2 ^ d)) set) =
    ⊎_elim (λ (a : is_at (bit_xor c (2 ^ d)) r ≡ true). rw (a, l) refl)
    (λ (a : is_at (bit_xor c (2 ^ d)) r ≡ false). rw a refl) (cases_Bool (is_at (bit_xor c (2 ^ d)) r)) in
    ⊎_elim
    (λ (a : is_at c r ≡ true).
    rw (come, l, a)
    (ap (put r) ih
    ∙ (put-append r (filter (λ q. not (leaves q)) (in_order (standing_at c set)))
    (comers leaves d cycle (standing_at (bit_xor c (2 ^ d)) set))
    (none_before-comers r.since leaves d cycle (standing_at (bit_xor c (2 ^ d)) set)
    (not_both_before r.since (time_across d cycle) h.0))
    ∙ ap (λ z. z ++ comers leaves d cycle (standing_at (bit_xor c (2 ^ d)) set))
    (sym (filter-put_yes (λ q. not (leaves q)) r (in_order (standing_at c set))
    (IsSorted-in_order (standing_at c set)) stay)))))
    (λ (a : is_at c r ≡ false). rw (come, l, a) ih)
    (cases_Bool (is_at c r)))
    (cases_Bool (leaves r))

target-step : (leaves : Standing → Bool) (d cycle : ℕ) (r : Standing)
    → target (step_of_record leaves d cycle r) ≡ target r
target-step leaves d cycle r =
    ⊎_elim
    (λ (e : leaves r ≡ true).
    let same : bit_xor (bit_xor r.chip (2 ^ d)) (bit_xor r.message.rel (2 ^ d)) ≡ bit_xor r.chip r.message.rel =
    xor_across r.chip r.message.rel (2 ^ d) in
    rw e (λ i. record { chip = same i; proc = r.message.proc }))
    (λ (e : leaves r ≡ false). rw e refl)
    (cases_Bool (leaves r))

targets-step : (leaves : Standing → Bool) (d cycle : ℕ) (set : List Standing)
    → map target (map (step_of_record leaves d cycle) set) ≡ map target set
targets-step leaves d cycle [] = refl
targets-step leaves d cycle (r ∷ set) = λ i. target-step leaves d cycle r i ∷ targets-step leaves d cycle set i

-- a dimension step keeps the target of each record
pub target-after_dimension : (routing : Routing) (cap d cycle : ℕ) (set : List Standing)
    → map target (after_dimension routing cap d cycle set) ≡ map target set
unfolding after_dimension
target-after_dimension routing cap d cycle set = targets-step (leaves routing cap d set) d cycle set
