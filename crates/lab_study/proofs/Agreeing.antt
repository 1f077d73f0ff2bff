-- The numbers of a petit cycle, and the lines of the account.
use Rattle.std.proofs.Common.{◌≡◌, ℕ, suc, ◌+◌, ◌<◌, ◌^◌, Bool, true, false, cond, List, [], ◌∷◌, ◌++◌}
use Rattle.std.proofs.Common.{length, map, drop, sum, count_by}
use Rattle.std.proofs.Common.{filter_map, flat_map, refl, sym, ap, ◌∙◌, arith, length-append}
use Rattle.std.proofs.lemmas.List.{length-map}
use Rattle.std.specs.List.{range_with_len}
use Rattle.std.proofs.lemmas.List.Sums.{sum-map, sum_by-cons}
use Rattle.std.proofs.lemmas.List.Concat.{length-flat_map}
use Rattle.cm_model.specs.declared.act.Act.TheVariants.{Cycle}
use Rattle.cm_model.specs.declared.message.Event.{Event}
use Rattle.cm_model.specs.declared.message.Event.TheVariants.{Injected, Delivered}
use Rattle.cm_model.specs.Each.{tabulate}
use Rattle.cm_model.specs.Array.{nth_or_nil}
use Rattle.cm_model.specs.Machine.{Machine, run_of}
use Rattle.cm_model.specs.Account.{Triple, injected_triple, delivered_triple, standing_triple, new_events, newly_injected}
use Rattle.cm_model.specs.Deliveries.{standing_lines, newly_delivered}
use Rattle.cm_model.proofs.Counting.{sum_by-range}
use Rattle.cm_model.proofs.Each.{get_or-each_below}
use Rattle.cm_model.proofs.Following.{run_follows, stand_or_were_delivered}
use Rattle.lab_study.specs.Counts.{log_lengths, events_behind, is_injection_event, is_delivery_event, taken_count_at}
use Rattle.lab_study.specs.Counts.{delivered_count_at, standing_count_at}
use Rattle.lab_study.specs.Counts.{counts_of, counts_to}
use Rattle.lab_study.specs.StudyLaws.{AgreesWithTheAccount}
use Rattle.lab_study.specs.Traces.{Traces}

-- every line counts
abbrev any : Triple → Bool
any line = true

all_count : (lines : List Triple) → count_by any lines ≡ length lines
all_count [] = refl
all_count (line ∷ lines) =
    let more : count_by any (line ∷ lines) ≡ 1 + count_by any lines = sum_by-cons (λ x. 1) line lines in
    let next : 1 + length lines ≡ suc (length lines) = omega arith in
    more ∙ ap (λ (k : ℕ). 1 + k) (all_count lines) ∙ next

both_count : (xs ys : List Triple) → count_by any (xs ++ ys) ≡ length xs + length ys
both_count xs ys = all_count (xs ++ ys) ∙ length-append xs ys

-- what one element counts
abbrev weight : Bool → ℕ
weight b = cond b 1 0

-- an event more that counts, and one that does not
one-more : (p : Event → Bool) (event : Event) (events : List Event) → p event ≡ true
    → suc (count_by p events) ≡ count_by p (event ∷ events)
one-more p event events is =
    let more : count_by p (event ∷ events) ≡ weight (p event) + count_by p events =
    sum_by-cons (λ e. weight (p e)) event events in
    let one : weight (p event) ≡ 1 = ap weight is in
    omega (arith, more, one)

no-more : (p : Event → Bool) (event : Event) (events : List Event) → p event ≡ false
    → count_by p events ≡ count_by p (event ∷ events)
no-more p event events is =
    let more : count_by p (event ∷ events) ≡ weight (p event) + count_by p events =
    sum_by-cons (λ e. weight (p e)) event events in
    let none : weight (p event) ≡ 0 = ap weight is in
    omega (arith, more, none)

-- as many injections as lines of them
injections : (events : List Event) → length (filter_map injected_triple events) ≡ count_by is_injection_event events
injections [] = refl
injections (Injected m ∷ events) =
    ap suc (injections events) ∙ one-more is_injection_event (Injected m) events refl
injections (Delivered c m ∷ events) = injections events ∙ no-more is_injection_event (Delivered c m) events refl

-- and deliveries
deliveries : (events : List Event) → length (filter_map delivered_triple events) ≡ count_by is_delivery_event events
deliveries [] = refl
deliveries (Injected m ∷ events) = deliveries events ∙ no-more is_delivery_event (Injected m) events refl
deliveries (Delivered c m ∷ events) =
    ap suc (deliveries events) ∙ one-more is_delivery_event (Delivered c m) events refl

-- the events behind so many as there were are the new ones
behind : (n : ℕ) (before after : Machine) (c : ℕ) → c < 2 ^ n
    → events_behind (log_lengths n before) after c ≡ new_events before after c
behind n before after c below =
    ap (λ (k : ℕ). drop k (nth_or_nil after.logs c))
    (get_or-each_below (2 ^ n) (λ k. length (nth_or_nil before.logs k)) c 0 below)

-- a sum over all chips is the length of what is gathered from them
gathered : {X : Type 0} (n : ℕ) (f : ℕ → ℕ) (g : ℕ → List X) → ((c : ℕ) → c < 2 ^ n → f c ≡ length (g c))
    → sum (tabulate 0 (2 ^ n) f) ≡ length (flat_map g (range_with_len 0 (2 ^ n)))
unfolding tabulate
gathered n f g same =
    sum-map f (range_with_len 0 (2 ^ n))
    ∙ sum_by-range f (λ c. length (g c)) 0 (2 ^ n) (λ c from below. same c (omega (arith, below)))
    ∙ sym (length-flat_map g (range_with_len 0 (2 ^ n)))

-- the counts of messages taken in at all chips make as many as the account has lines of them
taken : (n cap : ℕ) (before after : Machine)
    → sum (tabulate 0 (2 ^ n) (taken_count_at (log_lengths n before) after)) ≡ length (newly_injected n before after)
unfolding newly_injected
taken n cap before after =
    gathered n (taken_count_at (log_lengths n before) after) (λ c. filter_map injected_triple (new_events before after c))
    (λ c below. ap (count_by is_injection_event) (behind n before after c below) ∙ sym (injections (new_events before after c)))

-- and those of messages delivered
gone : (n cap : ℕ) (before after : Machine)
    → sum (tabulate 0 (2 ^ n) (delivered_count_at (log_lengths n before) after)) ≡ length (newly_delivered n before after)
unfolding newly_delivered
gone n cap before after =
    gathered n (delivered_count_at (log_lengths n before) after) (λ c. filter_map delivered_triple (new_events before after c))
    (λ c below. ap (count_by is_delivery_event) (behind n before after c below) ∙ sym (deliveries (new_events before after c)))

-- and those of messages that stand in routers
stands : (n : ℕ) (after : Machine) → sum (tabulate 0 (2 ^ n) (standing_count_at after)) ≡ length (standing_lines n after)
unfolding standing_lines
stands n after =
    gathered n (standing_count_at after) (λ c. map (standing_triple c) (nth_or_nil after.buffers c))
    (λ c below. sym (length-map (nth_or_nil after.buffers c) (standing_triple c)))

pub counts_agree : (n cap : ℕ) (traces : Traces) (machine : Machine)
    → AgreesWithTheAccount n machine (run_of n cap machine (Cycle ∷ []))
    (counts_of n cap (log_lengths n machine) traces (run_of n cap machine (Cycle ∷ [])))
unfolding counts_to
counts_agree n cap traces machine = record {
  taken = taken n cap machine after;
  delivered = gone n cap machine after;
  standing = stands n after;
  balance = ap (λ (k : ℕ). length (standing_lines n machine) + k) (taken n cap machine after)
      ∙ sym (both_count (standing_lines n machine) (newly_injected n machine after))
      ∙ stand_or_were_delivered n machine after (run_follows n cap machine (Cycle ∷ [])) any
      ∙ both_count (standing_lines n after) (newly_delivered n machine after)
      ∙ (λ i. sym (stands n after) i + sym (gone n cap machine after) i);
}
  where
    after : Machine
    after = run_of n cap machine (Cycle ∷ [])
