-- Steps from round to round, and counts of them.
use Rattle.std.proofs.Common.{◌≡◌, ℕ, zero, suc, ◌+◌, ◌*◌, Bool, true, false, cond, List, [], ◌∷◌, ◌++◌, map, None}
use Rattle.std.proofs.Common.{refl, sym, ◌∙◌, ap}
use Rattle.std.proofs.Common.{arith, mul_comm}
use Rattle.std.proofs.Math.Nat.{mul-add}
use Rattle.std.specs.List.{count_by, range_with_len}
use Rattle.std.proofs.lemmas.List.Sums.{sum_by-cons, sum_by-append}
use Rattle.cm_model.specs.declared.act.Act.{Act}
use Rattle.cm_model.specs.declared.act.Nano.{Nano}
use Rattle.cm_model.specs.declared.act.Act.TheVariants as act
use Rattle.cm_model.specs.Steps.{Step, Instruct, Look, Inject, Cross, Deliver, Phase, steps_of}
use Rattle.cm_model.specs.Steps.{all_steps, phases, steps_in}
use Rattle.cm_model.proofs.Parts.{steps_in-phases_from}
use Rattle.cm_blocks.specs.Rounds.{is_round, until, beyond, until_round, steps_until, steps_between, steps_after_round}
use Rattle.cm_blocks.specs.Counts.{is_injection, is_delivery, injections, deliveries, events_in}
use Rattle.cm_array.specs.Acts.{is_cycle, cycles_in}
use Rattle.cm_subcube.specs.Local.{local_after}
use Rattle.cm_subcube.specs.Laws.{IsSharedOut}

-- ---- lists cut at what passes a test

-- what is behind one more is what is behind the first of the rest
beyond-more : {X : Type 0} (is : X → Bool) (r : ℕ) (xs : List X) → beyond is (suc r) xs ≡ beyond is 0 (beyond is r xs)
beyond-more is r [] = refl
beyond-more is zero (x ∷ xs) = grind (arith, beyond-more is 0 xs)
beyond-more is (suc r) (x ∷ xs) = grind (arith, beyond-more is r xs, beyond-more is (suc r) xs)

-- one more to count
count_by-cons : {X : Type 0} (p : X → Bool) (x : X) (xs : List X) → count_by p (x ∷ xs) ≡ cond (p x) 1 0 + count_by p xs
count_by-cons p x xs = sum_by-cons (λ y. cond (p y) 1 0) x xs

-- a count in which what passes the test counts nothing is shared out
shared : {X : Type 0} (is p : X → Bool) (xs : List X) → ((x : X) → is x ≡ true → p x ≡ false)
    → count_by p (until is 0 xs) + count_by p (beyond is 0 xs) ≡ count_by p xs
shared is p [] none = refl
shared is p (x ∷ xs) none =
    grind (arith, shared is p xs none, count_by-cons p x xs, count_by-cons p x (until is 0 xs), none x)

-- ---- steps of phases

until-steps : (n k r : ℕ) (xs : List Phase)
    → steps_in (until (λ phase. is_round n k phase.step) r xs) ≡ until (is_round n k) r (steps_in xs)
until-steps n k r [] = refl
until-steps n k zero (x ∷ xs) = grind (arith, until-steps n k 0 xs)
until-steps n k (suc r) (x ∷ xs) = ap (λ z. x.step ∷ z) (until-steps n k (cond (is_round n k x.step) r (suc r)) xs)

beyond-steps : (n k r : ℕ) (xs : List Phase)
    → steps_in (beyond (λ phase. is_round n k phase.step) r xs) ≡ beyond (is_round n k) r (steps_in xs)
beyond-steps n k r [] = refl
beyond-steps n k zero (x ∷ xs) = grind (arith, beyond-steps n k 0 xs)
beyond-steps n k (suc r) (x ∷ xs) = beyond-steps n k (cond (is_round n k x.step) r (suc r)) xs

-- the steps of a run until its first round
pub steps_until-first : (n k : ℕ) (acts : List Act) → steps_until n k acts 0 ≡ local_after n k acts None
steps_until-first n k acts =
    until-steps n k 0 (phases n acts) ∙ ap (until_round n k) (steps_in-phases_from n 0 acts)

-- those between a round and the next, of those behind it
pub steps_between-steps_after_round : (n k r : ℕ) (acts : List Act) → steps_between n k acts r
    ≡ until_round n k (steps_after_round n k acts r)
steps_between-steps_after_round n k r acts = until-steps n k 0 (beyond (λ phase. is_round n k phase.step) r (phases n acts))

-- those behind the first round
steps_after_round-first : (n k : ℕ) (acts : List Act) → steps_after_round n k acts 0 ≡ beyond (is_round n k) 0 (all_steps n acts)
steps_after_round-first n k acts =
    beyond-steps n k 0 (phases n acts) ∙ ap (beyond (is_round n k) 0) (steps_in-phases_from n 0 acts)

-- those behind the next round
steps_after_round-next : (n k r : ℕ) (acts : List Act) → steps_after_round n k acts (r + 1)
    ≡ beyond (is_round n k) 0 (steps_after_round n k acts r)
steps_after_round-next n k r acts =
    ap (steps_after_round n k acts) (let e : r + 1 ≡ suc r = omega arith in e)
    ∙ ap steps_in (beyond-more (λ (phase : Phase). is_round n k phase.step) r (phases n acts))
    ∙ beyond-steps n k 0 (beyond (λ phase. is_round n k phase.step) r (phases n acts))

-- ---- counts that are shared out

-- a count of steps that counts no round, and one step of each petit cycle
module _ (p : Step → Bool) (over : (nano : Nano) → p (Instruct nano) ≡ false) (look : p Look ≡ false)
    (cross : (d : ℕ) → p (Cross d) ≡ false) (both : cond (p Inject) 1 0 + cond (p Deliver) 1 0 ≡ 1) where
  none : (n k : ℕ) (step : Step) → is_round n k step ≡ true → p step ≡ false
  none n k (Instruct nano) h = over nano
  none n k Look h = look
  none n k Inject h = absurd (let wrong : false ≡ true = h in cc)
  none n k (Cross d) h = cross d
  none n k Deliver h = absurd (let wrong : false ≡ true = h in cc)

  crossing : (ds : List ℕ) → count_by p (map Cross ds ++ Deliver ∷ []) ≡ cond (p Deliver) 1 0
  crossing [] = grind (arith, count_by-cons p Deliver [])
  crossing (d ∷ ds) = grind (arith, count_by-cons p (Cross d) (map Cross ds ++ Deliver ∷ []), crossing ds, cross d)

  each : (n : ℕ) (one : Act) → count_by p (steps_of n one) ≡ cycles_in (one ∷ [])
  each n (act.Nano nano) = grind (arith, count_by-cons p (Instruct nano) [], over nano)
  each n act.Sense = grind (arith, count_by-cons p Look [])
  each n act.Cycle =
      let rest : List Step = map Cross (range_with_len 0 n) ++ Deliver ∷ [] in
      grind (arith, count_by-cons p Inject rest, crossing (range_with_len 0 n))

  count_by-all : (n : ℕ) (acts : List Act) → count_by p (all_steps n acts) ≡ cycles_in acts
  count_by-all n [] = refl
  count_by-all n (a ∷ acts) =
      sum_by-append (λ (step : Step). cond (p step) 1 0) (steps_of n a) (all_steps n acts)
      ∙ (λ i. each n a i + count_by-all n acts i)
      ∙ sym (sum_by-append (λ (one : Act). cond (is_cycle one) 1 0) (a ∷ []) acts)

  pub IsSharedOut-steps : IsSharedOut (count_by p) 1
  IsSharedOut-steps = record {
    first = λ n k acts.
        ap (λ (z : List Step). count_by p (local_after n k acts None) + count_by p z) (steps_after_round-first n k acts)
        ∙ shared (is_round n k) p (all_steps n acts) (none n k)
        ∙ count_by-all n acts ∙ (let e : cycles_in acts ≡ cycles_in acts * 1 = omega arith in e);
    next = λ n k r acts.
        ap (λ (z : List Step). count_by p z + count_by p (steps_after_round n k acts (r + 1))) (steps_between-steps_after_round n k r acts)
        ∙ ap (λ (z : List Step). count_by p (until_round n k (steps_after_round n k acts r)) + count_by p z)
        (steps_after_round-next n k r acts)
        ∙ shared (is_round n k) p (steps_after_round n k acts r) (none n k);
  }

-- the weighed sum of two counts is shared out as they are
weighed : (room i d i_first d_first i_rest d_rest : ℕ) → i_first + i_rest ≡ i → d_first + d_rest ≡ d
    → 4 * i_first + room * d_first + (4 * i_rest + room * d_rest) ≡ 4 * i + room * d
weighed room i d i_first d_first i_rest d_rest is ds = grind (arith, mul-add room d_first d_rest)

pub deliveries_shared : IsSharedOut deliveries 1
deliveries_shared = IsSharedOut-steps is_delivery (λ nano. refl) refl (λ d. refl) refl

pub events_shared : (room : ℕ) → IsSharedOut (events_in room) (4 + room)
events_shared room =
    let i : IsSharedOut injections 1 = IsSharedOut-steps is_injection (λ nano. refl) refl (λ d. refl) refl in
    let d : IsSharedOut deliveries 1 = deliveries_shared in
    record {
      first = λ n k acts. grind (
        arith,
        weighed room (cycles_in acts * 1) (cycles_in acts * 1) (injections (local_after n k acts None))
            (deliveries (local_after n k acts None)) (injections (steps_after_round n k acts 0)) (deliveries (steps_after_round n k acts 0))
            (i.first n k acts) (d.first n k acts),
        mul_comm room (cycles_in acts),
        mul-add (cycles_in acts) 4 room,
      );
      next = λ n k r acts.
          weighed room (injections (steps_after_round n k acts r)) (deliveries (steps_after_round n k acts r))
          (injections (steps_between n k acts r)) (deliveries (steps_between n k acts r))
          (injections (steps_after_round n k acts (r + 1))) (deliveries (steps_after_round n k acts (r + 1))) (i.next n k r acts)
          (d.next n k r acts);
    }
