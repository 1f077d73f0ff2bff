-- A message that a log tells was delivered stood in a router before, or was injected.
use Rattle.std.proofs.Common.{◌≡◌, ℕ, zero, suc, ◌+◌, ◌-◌, ◌<◌, ◌≤◌, ◌^◌, Bool, true, false, cond, eqb, ◌&&◌, List, []}
use Rattle.std.proofs.Common.{◌∷◌, length, drop, map, get_or, Some, None, Option, refl, sym, ap, ◌∙◌, subst}
use Rattle.std.proofs.Common.{inl, inr, unwrap_or, ⊎_elim, arith, rules}
use Rattle.std.proofs.lemmas.Bool.{cases_Bool, cases_lt, eqb-true, eq-eqb, and_parts}
use Rattle.std.proofs.lemmas.List.{length-drop, get_or-drop}
use Rattle.std.proofs.lemmas.List.Elements.{All-contains, All-drop}
use Rattle.std.proofs.lemmas.List.Sums.{sum_by-cons, sum_by-append}
use Rattle.std.specs.Prelude.{◌⊎◌}
use Rattle.std.specs.List.{Contains, cons_option, filter_map, flat_map, count_by, range_with_len}
use Rattle.cm_model.specs.declared.message.Message.{Message}
use Rattle.cm_model.specs.declared.message.Event.{Event}
use Rattle.cm_model.specs.declared.message.Event.TheVariants.{Injected, Delivered}
use Rattle.cm_model.specs.Array.{nth_or_nil}
use Rattle.cm_model.specs.Buffers.{delivered_in, machine_after_delivery}
use Rattle.cm_model.specs.Machine.{Machine}
use Rattle.cm_model.specs.Account.{Triple, standing_triple, delivered_triple, injected_triple}
use Rattle.cm_model.specs.Account.{new_events, newly_injected}
use Rattle.cm_model.specs.Keeping.{IsEventOf, HasEvents}
use Rattle.cm_model.specs.Deliveries.{standing_lines, newly_delivered, Stands, WasInjected, IsAt}
use Rattle.cm_model.specs.Deliveries.{line_delivered}
use Rattle.cm_model.proofs.Counting.{sum_by-map, sum_by-none}
use Rattle.cm_model.proofs.Conserving.{one, chips_of, injected_count, no_injection, more_events}
use Rattle.cm_model.proofs.Delivered.{later_place}
use Rattle.cm_model.proofs.Following.{Follows, injected_grows, stand_or_were_delivered}

-- ---- lines that are one

-- two lines are one
pub is_line : Triple → Triple → Bool
is_line s t = eqb s.tag.chip t.tag.chip && (eqb s.tag.proc t.tag.proc && (eqb s.tag.birth t.tag.birth
    && (eqb s.target.chip t.target.chip && (eqb s.target.proc t.target.proc && eqb s.payload t.payload))))

pub is_itself : (t : Triple) → is_line t t ≡ true
unfolding is_line
is_itself t = rw (
  eq-eqb t.tag.chip t.tag.chip refl,
  eq-eqb t.tag.proc t.tag.proc refl,
  eq-eqb t.tag.birth t.tag.birth refl,
  eq-eqb t.target.chip t.target.chip refl,
  eq-eqb t.target.proc t.target.proc refl,
  eq-eqb t.payload t.payload refl,
) refl

pub is_one : (s t : Triple) → is_line s t ≡ true → s ≡ t
unfolding is_line
is_one s t h =
    let a = and_parts (eqb s.tag.chip t.tag.chip) (eqb s.tag.proc t.tag.proc && (eqb s.tag.birth t.tag.birth
    && (eqb s.target.chip t.target.chip && (eqb s.target.proc t.target.proc && eqb s.payload t.payload)))) h in
    let b = and_parts (eqb s.tag.proc t.tag.proc) (eqb s.tag.birth t.tag.birth
    && (eqb s.target.chip t.target.chip && (eqb s.target.proc t.target.proc && eqb s.payload t.payload))) a.1 in
    let c = and_parts (eqb s.tag.birth t.tag.birth) (eqb s.target.chip t.target.chip
    && (eqb s.target.proc t.target.proc && eqb s.payload t.payload)) b.1 in
    let d = and_parts (eqb s.target.chip t.target.chip) (eqb s.target.proc t.target.proc && eqb s.payload t.payload)
    c.1 in
    let e = and_parts (eqb s.target.proc t.target.proc) (eqb s.payload t.payload) d.1 in
    let chip = eqb-true s.tag.chip t.tag.chip a.0 in
    let proc = eqb-true s.tag.proc t.tag.proc b.0 in
    let birth = eqb-true s.tag.birth t.tag.birth c.0 in
    let there = eqb-true s.target.chip t.target.chip d.0 in
    let whose = eqb-true s.target.proc t.target.proc e.0 in
    let payload = eqb-true s.payload t.payload e.1 in
    λ i. record {
      tag = record { chip = chip i; proc = proc i; birth = birth i };
      target = record { chip = there i; proc = whose i };
      payload = payload i;
    }

-- ---- what is counted is there

pub some_counted : {X : Type 0} (p : X → Bool) (xs : List X) → 1 ≤ count_by p xs
    → (x : X) × Contains xs x × (p x ≡ true)
some_counted p [] h = absurd (omega (arith, h))
some_counted p (x ∷ xs) h =
    ⊎_elim (λ (e : p x ≡ true). (x, (0, omega arith, refl), e))
    (λ (e : p x ≡ false).
    let none : ◌≡◌ {A = ℕ} (cond (p x) 1 0) 0 = rw e refl in
    let rest = some_counted p xs (omega (arith, h, none, sum_by-cons (λ y. cond (p y) 1 0) x xs)) in
    (rest.0, later_place x rest.0 xs rest.1, rest.2))
    (cases_Bool (p x))

pub some_chip : (p : Triple → Bool) (f : ℕ → List Triple) (a k : ℕ) → 1 ≤ count_by p (flat_map f (range_with_len a k))
    → (c : ℕ) × (c < a + k) × (1 ≤ count_by p (f c))
some_chip p f a zero h = absurd (omega (arith, h))
some_chip p f a (suc k) h =
    ⊎_elim (λ (here : 0 < count_by p (f a)). (a, omega arith, omega (arith, here)))
    (λ (none : count_by p (f a) ≤ 0).
    let rest = some_chip p f (a + 1) k
    (omega (arith, h, none, sum_by-append (one p) (f a) (flat_map f (range_with_len (a + 1) k)))) in
    (rest.0, omega (arith, rest.1), rest.2))
    (cases_lt 0 (count_by p (f a)))

-- an event among these tells a line that passes
pub record HasTold (p : Triple → Bool) (h : Event → Option Triple) (events : List Event) : Type 0 where
  pub event : Event
  pub line : Triple
  pub inside : Contains events event
  pub told : h event ≡ Some line
  pub passes : p line ≡ true

told_later : (p : Triple → Bool) (h : Event → Option Triple) (event : Event) (events : List Event) → HasTold p h events
    → HasTold p h (event ∷ events)
told_later p h event events it = record {
  event = it.event;
  line = it.line;
  inside = later_place event it.event events it.inside;
  told = it.told;
  passes = it.passes;
}

told_here : (p : Triple → Bool) (h : Event → Option Triple) (event : Event) (events : List Event)
    (told : Option Triple) → h event ≡ told → 1 ≤ count_by p (cons_option told (filter_map h events))
    → (1 ≤ count_by p (filter_map h events) → HasTold p h events) → HasTold p h (event ∷ events)
told_here p h event events None e k rest = told_later p h event events (rest k)
told_here p h event events (Some line) e k rest =
    ⊎_elim (λ (b : p line ≡ true).
    record { event = event; line = line; inside = (0, omega arith, refl); told = e; passes = b })
    (λ (b : p line ≡ false).
    let none : ◌≡◌ {A = ℕ} (cond (p line) 1 0) 0 = rw b refl in
    told_later p h event events (rest (omega (arith, k, none, sum_by-cons (one p) line (filter_map h events)))))
    (cases_Bool (p line))

pub some_told : (p : Triple → Bool) (h : Event → Option Triple) (events : List Event)
    → 1 ≤ count_by p (filter_map h events) → HasTold p h events
some_told p h [] l = absurd (omega (arith, l))
some_told p h (event ∷ events) l =
    told_here p h event events (h event) refl l (λ k. some_told p h events k)

-- ---- what is there is counted

no_less : (p : Triple → Bool) (told : Option Triple) (lines : List Triple)
    → count_by p lines ≤ count_by p (cons_option told lines)
no_less p None lines = omega arith
no_less p (Some line) lines = omega (arith, sum_by-cons (one p) line lines)

pub told_counted : (p : Triple → Bool) (h : Event → Option Triple) (events : List Event) (event : Event) (line : Triple)
    → Contains events event → h event ≡ Some line → p line ≡ true → 1 ≤ count_by p (filter_map h events)
told_counted p h [] event line inside so passes = absurd (omega (arith, inside.1))
told_counted p h (x ∷ events) event line (zero, l, e) so passes =
    let here : ◌≡◌ {A = ℕ} (cond (p line) 1 0) 1 = rw passes refl in
    rw (ap h e ∙ so) (omega (arith, here, sum_by-cons (one p) line (filter_map h events)))
told_counted p h (x ∷ events) event line (suc k, l, e) so passes =
    omega (
      arith,
      told_counted p h events event line (k, omega arith, e) so passes,
      no_less p (h x) (filter_map h events),
    )

pub chip_counted : (p : Triple → Bool) (f : ℕ → List Triple) (c a k : ℕ) → a ≤ c → c < a + k → 1 ≤ count_by p (f c)
    → 1 ≤ count_by p (flat_map f (range_with_len a k))
chip_counted p f c a zero h l some = absurd (omega arith)
chip_counted p f c a (suc k) h l some =
    let parts = sum_by-append (one p) (f a) (flat_map f (range_with_len (a + 1) k)) in
    ⊎_elim
    (λ (e : a < c). omega (arith, parts, chip_counted p f c (a + 1) k (omega arith) (omega arith) some))
    (λ (e : c ≤ a).
    let same : c ≡ a = omega arith in
    omega (arith, parts, subst (λ (b : ℕ). 1 ≤ count_by p (f b)) same some))
    (cases_lt a c)

-- ---- new events

-- an event of a log that is not among its first ones
new_event : (log : List Event) (k i : ℕ) (event : Event) → k ≤ i → IsAt log i event → Contains (drop k log) event
new_event log k i event h there =
    let place : k + (i - k) ≡ i = omega arith in (
      i - k,
      omega (arith, there.0, length-drop k log),
      get_or-drop k log (i - k) event ∙ (ap (λ j. get_or log j event) place ∙ there.1),
    )

delivery_counted : (p : Triple → Bool) (n : ℕ) (before after : Machine) (c i : ℕ) (m : Message) → c < 2 ^ n
    → length (nth_or_nil before.logs c) ≤ i → IsAt (nth_or_nil after.logs c) i (Delivered c m)
    → p (line_delivered c m) ≡ true → 1 ≤ count_by p (newly_delivered n before after)
unfolding newly_delivered
delivery_counted p n before after c i m l old there passes =
    chip_counted p (λ b. filter_map delivered_triple (new_events before after b)) c 0 (2 ^ n) (omega arith)
    (omega (arith, l))
    (told_counted p delivered_triple (new_events before after c) (Delivered c m) (line_delivered c m)
    (new_event (nth_or_nil after.logs c) (length (nth_or_nil before.logs c)) i (Delivered c m) old there) refl passes)

-- ---- origins

pub stands-counted : (n : ℕ) (machine : Machine) (line : Triple)
    → 1 ≤ count_by (is_line line) (standing_lines n machine) → Stands n machine line
unfolding standing_lines
stands-counted n machine line h =
    let at = some_chip (is_line line) (λ c. map (standing_triple c) (nth_or_nil machine.buffers c)) 0 (2 ^ n) h in
    let here : List Message = nth_or_nil machine.buffers at.0 in
    let it = some_counted (λ m. is_line line (standing_triple at.0 m)) here
    (omega (arith, at.2, sum_by-map (one (is_line line)) (standing_triple at.0) here)) in
    record {
      chip = at.0;
      within = omega (arith, at.1);
      message = it.0;
      stands = it.1;
      same = sym (is_one line (standing_triple at.0 it.0) it.2);
    }

pub Some-same : {X : Type 0} {x y : X} → ◌≡◌ {A = Option X} (Some x) (Some y) → x ≡ y
Some-same {x = x} e = ap (λ o. unwrap_or o x) e

-- an event that tells the line of an injection is one
is_injection : (n c : ℕ) (line : Triple) (event : Event) → IsEventOf n c event → (told : Triple)
    → injected_triple event ≡ Some told → is_line line told ≡ true
    → (m : Message) × (event ≡ Injected m) × (standing_triple c m ≡ line)
is_injection n c line (Injected m) of told e same =
    (m, refl, ap (λ b. standing_triple b m) (sym of.here) ∙ (Some-same e ∙ sym (is_one line told same)))
is_injection n c line (Delivered d m) of told e same = absurd (search rules)

injected-counted : (n : ℕ) (before after : Machine) (line : Triple) → HasEvents n after
    → 1 ≤ count_by (is_line line) (newly_injected n before after) → WasInjected n before after line
unfolding newly_injected
injected-counted n before after line events h =
    let at = some_chip (is_line line) (λ c. filter_map injected_triple (new_events before after c)) 0 (2 ^ n) h in
    let it = some_told (is_line line) injected_triple (new_events before after at.0) at.2 in
    let of : IsEventOf n at.0 it.event = All-contains (IsEventOf n at.0) (new_events before after at.0) it.event
    (All-drop (IsEventOf n at.0) (length (nth_or_nil before.logs at.0)) (nth_or_nil after.logs at.0)
    (events at.0 (omega (arith, at.1)))) it.inside in
    let is = is_injection n at.0 line it.event of it.line it.told it.passes in
    record {
      chip = at.0;
      within = omega (arith, at.1);
      injected = record {
        message = is.0;
        told = subst (λ (event : Event). Contains (new_events before after at.0) event) is.1 it.inside;
        same = is.2;
      };
    }

-- a delivery injects nothing
delivery_injects_nothing : (p : Triple → Bool) (n : ℕ) (machine : Machine)
    → injected_count p n (machine_after_delivery n machine).logs ≡ injected_count p n machine.logs
unfolding machine_after_delivery
delivery_injects_nothing p n machine =
    omega (
      arith,
      more_events p n (λ c. injected_triple) machine.logs (λ c. map (λ m. Delivered c m) (delivered_in machine c)),
      sum_by-none (λ c. count_by p (filter_map injected_triple (map (λ m. Delivered c m) (delivered_in machine c))))
          (chips_of n) (λ c. ap (count_by p) (no_injection c (delivered_in machine c))),
    )

-- where a message that was delivered in a step came from
pub origin : (n : ℕ) (before here after : Machine) (c i : ℕ) (m : Message) → Follows n before here
    → Follows n before after → after ≡ machine_after_delivery n here → HasEvents n here → c < 2 ^ n
    → length (nth_or_nil before.logs c) ≤ i → IsAt (nth_or_nil after.logs c) i (Delivered c m) →
    Stands n before (line_delivered c m) ⊎ WasInjected n before here (line_delivered c m)
origin n before here after c i m h k next events l old there =
    let line : Triple = line_delivered c m in
    let p : Triple → Bool = is_line line in
    let injected : injected_count p n after.logs ≡ injected_count p n here.logs =
    ap (λ (z : Machine). injected_count p n z.logs) next ∙ delivery_injects_nothing p n here in
    let some : 1 ≤ count_by p (standing_lines n before) + count_by p (newly_injected n before here) =
    omega (
      arith,
      stand_or_were_delivered n before after k p,
      delivery_counted p n before after c i m l old there (is_itself line),
      injected_grows p n before after k.grows,
      injected_grows p n before here h.grows,
      injected,
      sum_by-append (one p) (standing_lines n before) (newly_injected n before after),
      sum_by-append (one p) (standing_lines n after) (newly_delivered n before after),
    ) in
    ⊎_elim (λ (e : 0 < count_by p (standing_lines n before)). inl (stands-counted n before line (omega (arith, e))))
    (λ (e : count_by p (standing_lines n before) ≤ 0).
    inr (injected-counted n before here line events (omega (arith, e, some))))
    (cases_lt 0 (count_by p (standing_lines n before)))
