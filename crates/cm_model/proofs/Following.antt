-- One machine follows another: its logs are longer, and its account has what was injected in between.
use Rattle.std.proofs.Common.{◌≡◌, ℕ, ◌+◌, ◌<◌, ◌^◌, Bool, List, []}
use Rattle.std.proofs.Common.{◌++◌, length, drop, take, map, refl, sym, ap, ◌∙◌, subst, arith}
use Rattle.std.proofs.Common.{append_assoc, append-nil}
use Rattle.std.proofs.lemmas.List.{drop_at, take_all}
use Rattle.std.proofs.lemmas.List.Elements.{filter_map-append}
use Rattle.std.proofs.lemmas.List.Sums.{sum_by-append}
use Rattle.std.specs.Prelude.{Option}
use Rattle.std.specs.List.{filter_map, flat_map, sum_by, count_by}
use Rattle.cm_model.specs.declared.act.Act.{Act}
use Rattle.cm_model.specs.declared.message.Event.{Event}
use Rattle.cm_model.specs.Array.{nth_or_nil}
use Rattle.cm_model.specs.Steps.{Step, all_steps}
use Rattle.cm_model.specs.Cycle.{State, state_after_all}
use Rattle.cm_model.specs.Machine.{Machine, opened, closed, machine_at, run_of}
use Rattle.cm_model.specs.Account.{Triple, standing_triple, delivered_triple, injected_triple, account_at, account}
use Rattle.cm_model.specs.Account.{new_events, newly_injected}
use Rattle.cm_model.specs.Deliveries.{standing_lines, newly_delivered, StandOrWereDelivered}
use Rattle.cm_model.proofs.Counting.{sum_by-plus, sum_by-flat_map, sum_by-range}
use Rattle.cm_model.proofs.Conserving.{one, chips_of, delivered_count, injected_count, account-closed}
use Rattle.cm_model.proofs.Accounting as run
use Rattle.cm_model.proofs.Accounting.{Extends, AreSteps, AreSteps-all, AllInCube-opened, account-opened}
use Rattle.cm_model.proofs.Accounting.{state_after_all_follows, logs_grow, account_is_conserved}
use Rattle.cm_model.proofs.Parts.{AreSteps-take}

-- ---- one machine follows another

-- the logs are longer, and lines have come into the account as often as into the list of what was injected
pub record Follows (n : ℕ) (before after : Machine) : Type 0 where
  pub grows : (c : ℕ) → c < 2 ^ n → Extends (nth_or_nil before.logs c) (nth_or_nil after.logs c)
  pub balance : (p : Triple → Bool)
      → count_by p (account n after) + injected_count p n before.logs
      ≡ count_by p (account n before) + injected_count p n after.logs

same_log : (events : List Event) → Extends events events
same_log events = ([], sym (append-nil events))

pub follows_itself : (n : ℕ) (machine : Machine) → Follows n machine machine
follows_itself n machine = record { grows = λ c l. same_log (nth_or_nil machine.logs c); balance = λ p. refl }

pub follows_on : (n : ℕ) (a b c : Machine) → Follows n a b → Follows n b c → Follows n a c
follows_on n a b c h k = record {
  grows = λ x l. (
    (h.grows x l).0 ++ (k.grows x l).0,
    (k.grows x l).1 ∙ (ap (λ z. z ++ (k.grows x l).0) (h.grows x l).1
        ∙ append_assoc (nth_or_nil a.logs x) (h.grows x l).0 (k.grows x l).0),
  );
  balance = λ p. omega (arith, h.balance p, k.balance p);
}

-- a machine that differs in its chips alone
pub chips_follow : (n : ℕ) (before after : Machine) → after.buffers ≡ before.buffers → after.logs ≡ before.logs
    → Follows n before after
unfolding account
chips_follow n before after buffers logs = rw (buffers, logs)
    (record { grows = λ c l. same_log (nth_or_nil before.logs c); balance = λ p. refl })

-- after so many steps of a run
pub steps_follow : (n cap : ℕ) (machine : Machine) (acts : List Act) (count : ℕ)
    → Follows n machine (machine_at n cap machine acts count)
unfolding opened closed
steps_follow n cap machine acts count =
    let steps : List Step = take count (all_steps n acts) in
    let after : State = state_after_all n cap (opened n machine) steps in
    let follows : run.Follows n (opened n machine) after =
    state_after_all_follows n cap (opened n machine) steps
    (AreSteps-take n count (all_steps n acts) (AreSteps-all n acts)) (AllInCube-opened n machine) in
    record {
      grows = follows.grows;
      balance = λ p.
          omega (arith, follows.balance p, account-opened p n machine, account-closed p n after follows.cube);
    }

-- after a run
pub run_follows : (n cap : ℕ) (machine : Machine) (acts : List Act) → Follows n machine (run_of n cap machine acts)
unfolding run_of
run_follows n cap machine acts =
    let steps : List Step = all_steps n acts in
    subst (λ (z : List Step). Follows n machine (closed n (state_after_all n cap (opened n machine) z)))
    (take_all (length steps) steps (omega arith)) (steps_follow n cap machine acts (length steps))

-- ---- what is new

-- what is longer is what was there and the new events
pub grown : (n : ℕ) (before after : Machine) (c : ℕ) → Extends (nth_or_nil before.logs c) (nth_or_nil after.logs c)
    → nth_or_nil after.logs c ≡ nth_or_nil before.logs c ++ new_events before after c
grown n before after c h =
    h.1 ∙ ap (λ z. nth_or_nil before.logs c ++ z)
    (sym (ap (drop (length (nth_or_nil before.logs c))) h.1
    ∙ drop_at (nth_or_nil before.logs c) h.0 (length (nth_or_nil before.logs c)) refl))

-- lines that logs tell: those that they told before, and those of the new events
lines_grow : (p : Triple → Bool) (h : Event → Option Triple) (n : ℕ) (before after : Machine)
    → ((c : ℕ) → c < 2 ^ n → Extends (nth_or_nil before.logs c) (nth_or_nil after.logs c)) →
    sum_by (λ c. count_by p (filter_map h (nth_or_nil after.logs c))) (chips_of n)
    ≡ sum_by (λ c. count_by p (filter_map h (nth_or_nil before.logs c))) (chips_of n) + count_by p
    (flat_map (λ c. filter_map h (new_events before after c)) (chips_of n))
lines_grow p h n before after grows =
    sum_by-range (λ c. count_by p (filter_map h (nth_or_nil after.logs c)))
    (λ c. count_by p (filter_map h (nth_or_nil before.logs c)) + count_by p
    (filter_map h (new_events before after c))) 0 (2 ^ n)
    (λ c k l. ap (λ z. count_by p (filter_map h z)) (grown n before after c (grows c (omega arith)))
    ∙ (ap (count_by p) (filter_map-append h (nth_or_nil before.logs c) (new_events before after c))
    ∙ sum_by-append (one p) (filter_map h (nth_or_nil before.logs c))
    (filter_map h (new_events before after c))))
    ∙ (sum_by-plus (λ c. count_by p (filter_map h (nth_or_nil before.logs c)))
    (λ c. count_by p (filter_map h (new_events before after c))) (chips_of n)
    ∙ ap (λ k. sum_by (λ c. count_by p (filter_map h (nth_or_nil before.logs c))) (chips_of n) + k)
    (sym (sum_by-flat_map (one p) (λ c. filter_map h (new_events before after c)) (chips_of n))))

pub injected_grows : (p : Triple → Bool) (n : ℕ) (before after : Machine)
    → ((c : ℕ) → c < 2 ^ n → Extends (nth_or_nil before.logs c) (nth_or_nil after.logs c))
    → injected_count p n after.logs ≡ injected_count p n before.logs + count_by p (newly_injected n before after)
unfolding newly_injected
injected_grows p n before after grows = lines_grow p injected_triple n before after grows

delivered_grows : (p : Triple → Bool) (n : ℕ) (before after : Machine)
    → ((c : ℕ) → c < 2 ^ n → Extends (nth_or_nil before.logs c) (nth_or_nil after.logs c))
    → delivered_count p n after.logs ≡ delivered_count p n before.logs + count_by p (newly_delivered n before after)
unfolding newly_delivered
delivered_grows p n before after grows = lines_grow p delivered_triple n before after grows

-- the account is what stands and what was delivered
pub account-parts : (p : Triple → Bool) (n : ℕ) (machine : Machine)
    → count_by p (account n machine) ≡ count_by p (standing_lines n machine) + delivered_count p n machine.logs
unfolding account standing_lines
account-parts p n machine =
    sum_by-flat_map (one p) (account_at machine) (chips_of n)
    ∙ (sum_by-range (λ c. count_by p (account_at machine c))
    (λ c. count_by p (map (standing_triple c) (nth_or_nil machine.buffers c)) + count_by p
    (filter_map delivered_triple (nth_or_nil machine.logs c))) 0 (2 ^ n)
    (λ c k l. sum_by-append (one p) (map (standing_triple c) (nth_or_nil machine.buffers c))
    (filter_map delivered_triple (nth_or_nil machine.logs c)))
    ∙ (sum_by-plus (λ c. count_by p (map (standing_triple c) (nth_or_nil machine.buffers c)))
    (λ c. count_by p (filter_map delivered_triple (nth_or_nil machine.logs c))) (chips_of n)
    ∙ ap (λ k. k + delivered_count p n machine.logs)
    (sym (sum_by-flat_map (one p) (λ c. map (standing_triple c) (nth_or_nil machine.buffers c)) (chips_of n)))))

-- so what stood and what was injected stands or was delivered
pub stand_or_were_delivered : (n : ℕ) (before after : Machine) → Follows n before after
    → StandOrWereDelivered n before after
stand_or_were_delivered n before after h p =
    omega (
      arith,
      h.balance p,
      account-parts p n before,
      account-parts p n after,
      injected_grows p n before after h.grows,
      delivered_grows p n before after h.grows,
      sum_by-append (one p) (standing_lines n before) (newly_injected n before after),
      sum_by-append (one p) (standing_lines n after) (newly_delivered n before after),
    )

-- the account is that of before and the lines of what was injected
pub account_follows : (p : Triple → Bool) (n : ℕ) (before after : Machine) → Follows n before after
    → count_by p (account n after) ≡ count_by p (account n before ++ newly_injected n before after)
account_follows p n before after h =
    omega (
      arith,
      h.balance p,
      injected_grows p n before after h.grows,
      sum_by-append (one p) (account n before) (newly_injected n before after),
    )
