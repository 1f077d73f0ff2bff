-- What a study of repeats keeps of a calm: the machines that one petit cycle after another led over.
use Rattle.std.proofs.Common.{◌≡◌, ℕ, suc, ◌+◌, ◌<◌, ◌≤◌, ◌^◌, Bool, true, false, List, [], ◌∷◌, ◌++◌, length, take}
use Rattle.std.proofs.Common.{refl, sym, ap, subst, ◌∙◌, ⊎_elim, arith, if◌then◌else◌}
use Rattle.std.proofs.lemmas.Bool.{cases_lt}
use Rattle.std.proofs.lemmas.List.{length_push, get_or_append_left, get_or_push}
use Rattle.cm_model.specs.declared.act.Act.{Act}
use Rattle.cm_model.specs.declared.act.Act.TheVariants.{Cycle}
use Rattle.cm_model.specs.Array.{nth_or_nil}
use Rattle.cm_model.specs.Machine.{Machine, run_of}
use Rattle.lab_study.specs.declared.holdings.Held.{Held}
use Rattle.lab_study.specs.Holdings.{holdings, event_count}
use Rattle.lab_study.specs.RoundLaws.{cycles_on, IsStill}
use Rattle.lab_study.proofs.Idling.{run_of-cycle}

-- ---- one petit cycle on

abbrev pub one_on : ℕ → ℕ → Machine → Machine
one_on n cap machine = run_of n cap machine (Cycle ∷ [])

pub clock-one_on : (n cap : ℕ) (machine : Machine) → length machine.buffers ≡ 2 ^ n
    → (one_on n cap machine).clock ≡ machine.clock + 1
clock-one_on n cap machine long = ap (λ (m : Machine). m.clock) (run_of-cycle n cap machine long)

-- in which nothing comes in or out
abbrev pub IsCalmAt : ℕ → ℕ → Machine → Type 0
IsCalmAt n cap machine = event_count n (one_on n cap machine) ≡ event_count n machine

pub still_on : (n cap : ℕ) (from now : Machine) (count : ℕ) → cycles_on n cap from count ≡ now → IsCalmAt n cap now
    → ((k : ℕ) → k < count → IsStill n cap from k) → (k : ℕ) → k < suc count → IsStill n cap from k
still_on n cap from now count on calm still k l =
    ⊎_elim (still k)
    (λ (late : count ≤ k). let last : count ≡ k = omega (arith, late, l) in
    subst (λ (j : ℕ). IsStill n cap from j) last
    (ap (λ (m : Machine). event_count n (one_on n cap m)) on ∙ calm ∙ ap (event_count n) (sym on)))
    (cases_lt k count)

-- ---- what is kept of a calm

-- so many petit cycles led from a machine to this one, and nothing came in or out; what the routers held before them
-- and after each stands in these times from a place to the end
pub record Led (n cap : ℕ) (from now : Machine) (times : List (List Held)) (place count : ℕ) : Type 0 where
  pub counted : place + count + 1 ≡ length times
  pub on : cycles_on n cap from count ≡ now
  pub clock : now.clock ≡ from.clock + count
  pub still : (k : ℕ) → k < count → IsStill n cap from k
  pub held : (k : ℕ) → k ≤ count → nth_or_nil times (place + k) ≡ holdings n (cycles_on n cap from k)

led_here : (n cap : ℕ) (now : Machine) (times : List (List Held)) (place : ℕ) → place + 1 ≡ length times
    → nth_or_nil times place ≡ holdings n now → Led n cap now now times place 0
led_here n cap now times place last held = record {
  counted = omega (arith, last);
  on = refl;
  clock = omega arith;
  still = λ k l. absurd (omega (arith, l));
  held = λ k l. let none : 0 ≡ k = omega (arith, l) in let here : place + k ≡ place = omega (arith, l) in
      ap (λ (j : ℕ). nth_or_nil times j) here ∙ held ∙ ap (λ (j : ℕ). holdings n (cycles_on n cap now j)) none;
}

led_on : (n cap : ℕ) (from now : Machine) (times : List (List Held)) (place count : ℕ) → length now.buffers ≡ 2 ^ n
    → IsCalmAt n cap now → Led n cap from now times place count
    → Led n cap from (one_on n cap now) (times ++ holdings n (one_on n cap now) ∷ []) place (suc count)
led_on n cap from now times place count long calm led =
    let next = one_on n cap now in
    let next_on : one_on n cap (cycles_on n cap from count) ≡ next = ap (λ (m : Machine). one_on n cap m) led.on in
    record {
      counted = omega (arith, led.counted, length_push times (holdings n next));
      on = next_on;
      clock = omega (arith, led.clock, clock-one_on n cap now long);
      still = still_on n cap from now count led.on calm led.still;
      held = λ k l. ⊎_elim
          (λ (early : k < suc count). get_or_append_left times (holdings n next ∷ []) [] (place + k)
          (omega (arith, led.counted, early)) ∙ led.held k (omega (arith, early)))
          (λ (late : suc count ≤ k). let last : suc count ≡ k = omega (arith, late, l) in
          get_or_push times (holdings n next) [] (place + k) (omega (arith, led.counted, last))
          ∙ ap (holdings n) (sym next_on) ∙ ap (λ (j : ℕ). holdings n (cycles_on n cap from j)) last)
          (cases_lt k (suc count));
    }

-- and that machine is the one behind so many acts
pub record Seen (n cap : ℕ) (machine : Machine) (acts : List Act) (now : Machine) (times : List (List Held)) (place : ℕ)
    : Type 0 where
  pub behind : ℕ
  pub count : ℕ
  pub led : Led n cap (run_of n cap machine (take behind acts)) now times place count

seen_here : (n cap : ℕ) (machine : Machine) (acts : List Act) (now : Machine) (behind : ℕ) (times : List (List Held))
    (place : ℕ) → now ≡ run_of n cap machine (take behind acts) → place + 1 ≡ length times
    → nth_or_nil times place ≡ holdings n now → Seen n cap machine acts now times place
seen_here n cap machine acts now behind times place is last held = record {
  behind = behind;
  count = 0;
  led = subst (λ (from : Machine). Led n cap from now times place 0) is (led_here n cap now times place last held);
}

-- so it is of each of these times
abbrev pub AllSeen : ℕ → ℕ → Machine → List Act → Machine → List (List Held) → Type 0
AllSeen n cap machine acts now times = (place : ℕ) → place < length times → Seen n cap machine acts now times place

-- with what is held before a first petit cycle
pub seen_before : (n cap : ℕ) (machine : Machine) (acts : List Act) (now : Machine) (behind : ℕ)
    (times : List (List Held)) → now ≡ run_of n cap machine (take behind acts)
    → AllSeen n cap machine acts now times → (none : Bool)
    → AllSeen n cap machine acts now (if none then holdings n now ∷ [] else times)
seen_before n cap machine acts now behind times is seen true place l =
    let first : place ≡ 0 = omega (arith, l) in
    seen_here n cap machine acts now behind (holdings n now ∷ []) place is (omega (arith, l))
    (ap (λ (j : ℕ). nth_or_nil (holdings n now ∷ []) j) first)
seen_before n cap machine acts now behind times is seen false place l = seen place l

-- one petit cycle on
pub seen_on : (n cap : ℕ) (machine : Machine) (acts : List Act) (now : Machine) (behind : ℕ)
    (times : List (List Held)) → length now.buffers ≡ 2 ^ n → IsCalmAt n cap now
    → one_on n cap now ≡ run_of n cap machine (take behind acts)
    → AllSeen n cap machine acts now times
    → AllSeen n cap machine acts (one_on n cap now) (times ++ holdings n (one_on n cap now) ∷ [])
seen_on n cap machine acts now behind times long calm is seen place l =
    let next = one_on n cap now in
    let all = length_push times (holdings n next) in
    ⊎_elim (λ (early : place < length times). old (seen place early))
    (λ (late : length times ≤ place). seen_here n cap machine acts next behind (times ++ holdings n next ∷ []) place is
    (omega (arith, l, late, all)) (get_or_push times (holdings n next) [] place (omega (arith, l, late, all))))
    (cases_lt place (length times))
  where
    old : Seen n cap machine acts now times place
        → Seen n cap machine acts (one_on n cap now) (times ++ holdings n (one_on n cap now) ∷ []) place
    old one = record {
      behind = one.behind;
      count = suc one.count;
      led = led_on n cap (run_of n cap machine (take one.behind acts)) now times place one.count long calm one.led;
    }
