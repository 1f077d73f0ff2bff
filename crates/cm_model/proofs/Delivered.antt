-- Each message that is delivered is received, as it was.
use Rattle.std.proofs.Common.{◌≡◌, ℕ, zero, suc, ◌<◌, ◌≤◌, ◌^◌, Bool, true, false, cond, List, [], ◌∷◌, ◌++◌, map, Some}
use Rattle.std.proofs.Common.{refl, sym, ◌∙◌, ap, subst, ⊎_elim, arith}
use Rattle.std.proofs.lemmas.Bool.{cases_Bool, cond_both, eq-eqb, eqb-true}
use Rattle.std.proofs.lemmas.List.Elements.{All-contains, Contains-append_right}
use Rattle.std.proofs.lemmas.List.Sums.{sum_by-cons}
use Rattle.std.specs.List.{Contains, count_by, find}
use Rattle.cm_model.specs.declared.message.Message.{Message}
use Rattle.cm_model.specs.declared.message.Event.{Event}
use Rattle.cm_model.specs.declared.message.Event.TheVariants.{Delivered}
use Rattle.cm_model.specs.Processor.{Processor}
use Rattle.cm_model.specs.Chip.{processor_at}
use Rattle.cm_model.specs.Array.{chip_at, nth_or_nil}
use Rattle.cm_model.specs.Letters.{is_for, can_receive, has_arrived, chip_after_delivery, AreDeliveries, HasReceived}
use Rattle.cm_model.specs.Machine.{Machine}
use Rattle.cm_model.specs.Buffers.{delivered_in, machine_after_delivery}
use Rattle.cm_model.specs.OneChip.{is_accepted, arrived_for, delivered}
use Rattle.cm_model.specs.Keeping.{IsMessage, IsSound}
use Rattle.cm_model.specs.RunLaws.{IsReceived}
use Rattle.cm_model.proofs.Each.{get_or-each_below}
use Rattle.cm_model.proofs.Apart.{deliveries_are_apart}
use Rattle.cm_model.proofs.Receiving.{payloads_are_received}

-- ---- one of a kind is found

pub later_place : {X : Type 0} (x m : X) (xs : List X) → Contains xs m → Contains (x ∷ xs) m
later_place x m xs h = (suc h.0, omega (arith, h.1), h.2)

pub counted : {X : Type 0} (p : X → Bool) (xs : List X) (m : X) → Contains xs m → p m ≡ true → 1 ≤ count_by p xs
counted p [] m h so = absurd (omega (arith, h.1))
counted p (x ∷ xs) m (zero, l, e) so =
    let here : ◌≡◌ {A = ℕ} (cond (p x) 1 0) 1 = rw (ap p e ∙ so) refl in
    omega (arith, sum_by-cons (λ q. cond (p q) 1 0) x xs)
counted p (x ∷ xs) m (suc k, l, e) so =
    omega (arith, sum_by-cons (λ q. cond (p q) 1 0) x xs, counted p xs m (k, omega arith, e) so)

found_once : {X : Type 0} (p : X → Bool) (xs : List X) (m : X) → count_by p xs ≤ 1 → Contains xs m → p m ≡ true
    → find p xs ≡ Some m
found_once p [] m once h so = absurd (omega (arith, h.1))
found_once p (x ∷ xs) m once (zero, l, e) so = rw (ap p e ∙ so) (ap (λ z. Some z) e)
found_once p (x ∷ xs) m once (suc k, l, e) so =
    let rest : Contains xs m = (k, omega arith, e) in
    ⊎_elim
    (λ (b : p x ≡ true).
    let here : ◌≡◌ {A = ℕ} (cond (p x) 1 0) 1 = rw b refl in
    absurd (omega (arith, once, sum_by-cons (λ q. cond (p q) 1 0) x xs, counted p xs m rest so)))
    (λ (b : p x ≡ false).
    let fewer : count_by p xs ≤ 1 = omega (arith, once, sum_by-cons (λ q. cond (p q) 1 0) x xs) in
    rw b (found_once p xs m fewer rest so))
    (cases_Bool (p x))

holds_image : {X Y : Type 0} (f : X → Y) (xs : List X) (m : X) → Contains xs m → Contains (map f xs) (f m)
holds_image f [] m h = absurd (omega (arith, h.1))
holds_image f (x ∷ xs) m (zero, l, e) = (0, omega arith, ap f e)
holds_image f (x ∷ xs) m (suc k, l, e) = later_place (f x) (f m) (map f xs) (holds_image f xs m (k, omega arith, e))

-- ---- what is delivered stood there

stood_first : (m x : Message) (ms out : List Message) → (Contains out m → Contains ms m) → Contains (x ∷ out) m
    → Contains (x ∷ ms) m
stood_first m x ms out f (zero, l, e) = (0, omega arith, e)
stood_first m x ms out f (suc k, l, e) = later_place x m ms (f (k, omega arith, e))

stood_before : (receives : ℕ → Bool) (before : List ℕ) (ms : List Message) (m : Message)
    → Contains (delivered receives before ms) m → Contains ms m
stood_before receives before [] m h = h
stood_before receives before (x ∷ ms) m h =
    let more : List Message = delivered receives (arrived_for before x) ms in
    cond_both (is_accepted receives before x) (x ∷ more) more
    (λ (out : List Message). Contains out m → Contains (x ∷ ms) m)
    (λ e k. stood_first m x ms more (stood_before receives (arrived_for before x) ms m) k)
    (λ e k. later_place x m ms (stood_before receives (arrived_for before x) ms m k)) h

-- ---- the law

pub delivered_are_received : (n cap : ℕ) (machine : Machine) (c : ℕ) (m : Message) → c < 2 ^ n → IsSound n cap machine
    → Contains (delivered_in machine c) m → IsReceived machine (machine_after_delivery n machine) c m
unfolding machine_after_delivery
delivered_are_received n cap machine c m l h inside =
    let here : List Message = nth_or_nil machine.buffers c in
    let chip : List Processor = chip_at machine.chips c in
    let out : List Message = delivered_in machine c in
    let apart : AreDeliveries (can_receive chip) out = deliveries_are_apart (can_receive chip) here in
    let stands : Contains here m = stood_before (can_receive chip) [] here m inside in
    let good : IsMessage n m = All-contains (IsMessage n) here m (h.messages c l) stands in
    let home : has_arrived m ≡ true = All-contains (λ q. has_arrived q ≡ true) out m apart.home inside in
    let mine : find (is_for m.proc) out ≡ Some m =
    found_once (is_for m.proc) out m (apart.apart m.proc) inside (eq-eqb m.proc m.proc refl) in
    let chips : chip_at (machine_after_delivery n machine).chips c ≡ chip_after_delivery out chip =
    get_or-each_below (2 ^ n) (λ b. chip_after_delivery (delivered_in machine b) (chip_at machine.chips b)) c [] l in
    let logs : nth_or_nil (machine_after_delivery n machine).logs c
    ≡ nth_or_nil machine.logs c ++ map (λ q. Delivered c q) out =
    get_or-each_below (2 ^ n)
    (λ b. nth_or_nil machine.logs b ++ map (λ q. Delivered b q) (delivered_in machine b)) c [] l in
    record {
      stood = stands;
      arrived = eqb-true m.rel 0 home;
      received = subst (λ (z : List Processor). HasReceived m (processor_at z m.proc)) (sym chips)
          (payloads_are_received chip out m.proc m (h.whole c l) good.proc good.payload mine);
      told = subst (λ (z : List Event). Contains z (Delivered c m)) (sym logs)
          (Contains-append_right (nth_or_nil machine.logs c) (map (λ q. Delivered c q) out) (Delivered c m)
          (holds_image (λ q. Delivered c q) out m inside));
    }
