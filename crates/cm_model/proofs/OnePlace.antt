-- Each message stands in one router or was delivered once.
use Rattle.std.proofs.Common.{◌≡◌, ℕ, ◌<◌, ◌≤◌, ◌^◌, Bool, true, List, Some, map, refl, sym, ap}
use Rattle.std.proofs.Common.{◌∙◌, subst, inl, inr, ⊎_elim, arith, rules}
use Rattle.std.proofs.lemmas.Bool.{cases_lt, eq-eqb}
use Rattle.std.proofs.lemmas.List.Elements.{All-contains}
use Rattle.std.proofs.lemmas.List.Sums.{sum_by-append}
use Rattle.std.specs.Prelude.{◌⊎◌}
use Rattle.std.specs.List.{Contains, filter_map, flat_map, count_by, range_with_len}
use Rattle.cm_model.specs.declared.message.Message.{Message}
use Rattle.cm_model.specs.declared.message.Event.{Event}
use Rattle.cm_model.specs.declared.message.Event.TheVariants.{Injected, Delivered}
use Rattle.cm_model.specs.Array.{nth_or_nil}
use Rattle.cm_model.specs.Machine.{Machine, machine_at, run_of}
use Rattle.cm_model.specs.Found.{same_tag}
use Rattle.cm_model.specs.Account.{Triple, standing_triple, delivered_triple, injected_triple, account, all_injected}
use Rattle.cm_model.specs.Account.{newly_injected}
use Rattle.cm_model.specs.Keeping.{IsEventOf, HasEvents, IsMachine}
use Rattle.cm_model.specs.Deliveries.{standing_lines, line_delivered, Stands, WasDelivered, IsInjected, IsInOnePlace}
use Rattle.cm_model.specs.Deliveries.{MessagesStandOrWereDelivered, MessagesAreInOnePlace}
use Rattle.cm_model.proofs.Counting.{sum_by-map, sum_by-flat_map}
use Rattle.cm_model.proofs.Conserving.{one, chips_of, delivered_count}
use Rattle.cm_model.proofs.Delivered.{counted}
use Rattle.cm_model.proofs.Keeping.{IsMachine-run_of}
use Rattle.cm_model.proofs.Following.{Follows, steps_follow, run_follows, account-parts, account_follows}
use Rattle.cm_model.proofs.Following.{stand_or_were_delivered}
use Rattle.cm_model.proofs.Origins.{is_line, is_itself, is_one, some_counted, some_chip, HasTold, some_told}
use Rattle.cm_model.proofs.Origins.{told_counted, chip_counted, stands-counted, Some-same}

-- ---- what is there is counted in the account

account-of_standing : (n : ℕ) (machine : Machine) (line : Triple) → Stands n machine line
    → 1 ≤ count_by (is_line line) (account n machine)
unfolding standing_lines
account-of_standing n machine line it =
    let p : Triple → Bool = is_line line in
    let lines : ℕ → List Triple = λ c. map (standing_triple c) (nth_or_nil machine.buffers c) in
    let passes : p (standing_triple it.chip it.message) ≡ true = ap p it.same ∙ is_itself line in
    let here : 1 ≤ count_by p (lines it.chip) =
    omega (
      arith,
      counted (λ m. p (standing_triple it.chip m)) (nth_or_nil machine.buffers it.chip) it.message it.stands passes,
      sum_by-map (one p) (standing_triple it.chip) (nth_or_nil machine.buffers it.chip),
    ) in
    let some : 1 ≤ count_by p (flat_map lines (range_with_len 0 (2 ^ n))) =
    chip_counted p lines it.chip 0 (2 ^ n) (omega arith) (omega (arith, it.within)) here in
    omega (arith, some, account-parts p n machine)

injected-counted_all : (n : ℕ) (machine : Machine) (line : Triple) → HasEvents n machine → IsInjected n machine line
    → 1 ≤ count_by (is_line line) (all_injected n machine)
unfolding all_injected
injected-counted_all n machine line events it =
    let log : List Event = nth_or_nil machine.logs it.chip in
    let m : Message = it.injected.message in
    let of : IsEventOf n it.chip (Injected m) =
    All-contains (IsEventOf n it.chip) log (Injected m) (events it.chip it.within) it.injected.told in
    let same : standing_triple m.tag.chip m ≡ line =
    ap (λ b. standing_triple b m) of.here ∙ it.injected.same in
    chip_counted (is_line line) (λ c. filter_map injected_triple (nth_or_nil machine.logs c)) it.chip 0 (2 ^ n)
    (omega arith) (omega (arith, it.within))
    (told_counted (is_line line) injected_triple log (Injected m) (standing_triple m.tag.chip m) it.injected.told refl
    (ap (is_line line) same ∙ is_itself line))

-- ---- what is counted in the account is there

-- an event that tells the line of a delivery is one
record IsOfDelivery (c : ℕ) (line : Triple) (event : Event) : Type 0 where
  pub message : Message
  pub is : event ≡ Delivered c message
  pub same : line_delivered c message ≡ line

is_delivery : (n c : ℕ) (line : Triple) (event : Event) → IsEventOf n c event → (told : Triple)
    → delivered_triple event ≡ Some told → is_line line told ≡ true → IsOfDelivery c line event
is_delivery n c line (Injected m) of told e same = absurd (search rules)
is_delivery n c line (Delivered d m) of told e same = record {
  message = m;
  is = ap (λ b. Delivered b m) of.here;
  same = ap (λ b. line_delivered b m) (sym of.here) ∙ (Some-same e ∙ sym (is_one line told same));
}

delivered-counted : (n : ℕ) (machine : Machine) (line : Triple) → HasEvents n machine
    → 1 ≤ delivered_count (is_line line) n machine.logs → WasDelivered n machine line
delivered-counted n machine line events h =
    let lines : ℕ → List Triple = λ c. filter_map delivered_triple (nth_or_nil machine.logs c) in
    let at = some_chip (is_line line) lines 0 (2 ^ n)
    (omega (arith, h, sum_by-flat_map (one (is_line line)) lines (chips_of n))) in
    let log : List Event = nth_or_nil machine.logs at.0 in
    let it : HasTold (is_line line) delivered_triple log = some_told (is_line line) delivered_triple log at.2 in
    let of : IsEventOf n at.0 it.event =
    All-contains (IsEventOf n at.0) log it.event (events at.0 (omega (arith, at.1))) it.inside in
    let is : IsOfDelivery at.0 line it.event = is_delivery n at.0 line it.event of it.line it.told it.passes in
    record {
      chip = at.0;
      within = omega (arith, at.1);
      message = is.message;
      told = subst (λ (event : Event). Contains log event) {y = Delivered at.0 is.message} is.is it.inside;
      same = is.same;
    }

tag_of : (s t : Triple) → s ≡ t → same_tag t.tag s.tag ≡ true
tag_of s t e =
    subst (λ (z : Triple). same_tag z.tag s.tag ≡ true) e
    (rw (
      eq-eqb s.tag.chip s.tag.chip refl,
      eq-eqb s.tag.proc s.tag.proc refl,
      eq-eqb s.tag.birth s.tag.birth refl,
    ) refl)

in_one_place : (n cap : ℕ) (machine : Machine) (line : Triple) → IsMachine n cap machine
    → 1 ≤ count_by (is_line line) (account n machine) → IsInOnePlace n machine line
in_one_place n cap machine line h some =
    let p : Triple → Bool = is_line line in
    let it = some_counted p (account n machine) some in
    let tagged : 1 ≤ count_by (λ other. same_tag other.tag line.tag) (account n machine) =
    counted (λ other. same_tag other.tag line.tag) (account n machine) it.0 it.1
    (tag_of line it.0 (is_one line it.0 it.2)) in
    record {
      there =
          ⊎_elim (λ (e : 0 < count_by p (standing_lines n machine)).
          inl (stands-counted n machine line (omega (arith, e))))
          (λ (e : count_by p (standing_lines n machine) ≤ 0).
          inr (delivered-counted n machine line h.events (omega (arith, e, some, account-parts p n machine))))
          (cases_lt 0 (count_by p (standing_lines n machine)));
      once = omega (arith, tagged, h.tags line.tag);
    }

-- ---- the laws

-- where one machine follows another
pub messages_in_one_place : (n cap : ℕ) (before after : Machine) (line : Triple) → Follows n before after
    → IsMachine n cap after → Stands n before line ⊎ IsInjected n after line → IsInOnePlace n after line
messages_in_one_place n cap before after line follows h message =
    let p : Triple → Bool = is_line line in
    in_one_place n cap after line h
    (⊎_elim (λ (it : Stands n before line).
    omega (
      arith,
      account-of_standing n before line it,
      account_follows p n before after follows,
      sum_by-append (one p) (account n before) (newly_injected n before after),
    ))
    (λ (it : IsInjected n after line). omega (arith, injected-counted_all n after line h.events it, h.injected p))
    message)

pub messages_are_in_one_place : MessagesAreInOnePlace
messages_are_in_one_place n cap machine acts line h message =
    messages_in_one_place n cap machine (run_of n cap machine acts) line (run_follows n cap machine acts)
    (IsMachine-run_of n cap machine acts h) message

pub messages_stand_or_were_delivered : MessagesStandOrWereDelivered
messages_stand_or_were_delivered n cap machine acts count =
    stand_or_were_delivered n machine (machine_at n cap machine acts count) (steps_follow n cap machine acts count)
