-- The account is conserved by each step: what stands, what was delivered, and what was injected.
use Rattle.std.proofs.Common.{◌≡◌, ℕ, ◌+◌, ◌<◌, ◌^◌, Bool, true, false, not, cond, ◌&&◌, List, [], ◌∷◌, ◌++◌, map}
use Rattle.std.proofs.Common.{Option, refl, sym, ◌∙◌, ap, ⊎_elim, arith}
use Rattle.std.proofs.lemmas.Bool.{cases_Bool, eqb-true, and_parts}
use Rattle.std.proofs.lemmas.List.Elements.{filter_map-append}
use Rattle.std.proofs.lemmas.List.Filters.{sum_by-filter_both}
use Rattle.std.proofs.lemmas.List.Sums.{sum_by-cons, sum_by-append}
use Rattle.std.specs.Int.Bits.{xor_zero_r}
use Rattle.std.specs.Prelude.{bit_xor}
use Rattle.std.specs.List.{filter, filter_map, flat_map, list_any, sum_by, count_by, range_with_len}
use Rattle.cm_model.specs.declared.message.Message.{Message}
use Rattle.cm_model.specs.declared.message.Event.{Event}
use Rattle.cm_model.specs.declared.message.Event.TheVariants.{Injected, Delivered}
use Rattle.cm_model.specs.Array.{Chips, each_chip, chip_at, nth_or_nil}
use Rattle.cm_model.specs.Wiring.{Routing}
use Rattle.cm_model.specs.Router.{Standing, is_at, standing_at, leaves, record_across, after_dimension}
use Rattle.cm_model.specs.Order.{in_order, queue, messages_of}
use Rattle.cm_model.specs.Letters.{message_sent, messages_sent, has_arrived, can_receive}
use Rattle.cm_model.specs.Cycle.{State, taken_at, new_record, new_records, after_injection, is_rival}
use Rattle.cm_model.specs.Cycle.{is_delivered, delivered_at, after_delivery}
use Rattle.cm_model.specs.Machine.{closed}
use Rattle.cm_model.specs.Processor.{Processor}
use Rattle.cm_model.specs.Account.{Triple, standing_triple, delivered_triple, injected_triple, account_at, account}
use Rattle.cm_model.proofs.Each.{get_or-each_below}
use Rattle.cm_model.proofs.Flips.{xor_across}
use Rattle.cm_model.proofs.Crossing.{step_of_record}
use Rattle.cm_model.proofs.Delivering.{filter_twice}
use Rattle.cm_model.proofs.Opening.{nth_or_nil-closed}
use Rattle.cm_model.proofs.Counting.{AllInCube, sum_by-plus, sum_by-map, sum_by-flat_map, sum_by-same, sum_by-none}
use Rattle.cm_model.proofs.Counting.{sum_by-range, sum_by-in_order, sum_by_chips}

-- ---- what is counted

-- one where a line passes the test
abbrev pub one : (Triple → Bool) → Triple → ℕ
one p t = cond (p t) 1 0

-- the chips of a cube
abbrev pub chips_of : ℕ → List ℕ
chips_of n = range_with_len 0 (2 ^ n)

abbrev pub triple_of : Standing → Triple
triple_of r = standing_triple r.chip r.message

-- the line of a message delivered at a chip
abbrev pub done_triple : ℕ → Message → Triple
done_triple c m = record { tag = m.tag; target = record { chip = c; proc = m.proc }; payload = m.payload }

-- how many lines of standing messages pass
abbrev pub standing_count : (Triple → Bool) → List Standing → ℕ
standing_count p set = sum_by (λ r. one p (triple_of r)) set

-- how many lines of deliveries pass
abbrev pub delivered_count : (Triple → Bool) → ℕ → List (List Event) → ℕ
delivered_count p n logs = sum_by (λ c. count_by p (filter_map delivered_triple (nth_or_nil logs c))) (chips_of n)

-- how many lines of injections pass
abbrev pub injected_count : (Triple → Bool) → ℕ → List (List Event) → ℕ
injected_count p n logs = sum_by (λ c. count_by p (filter_map injected_triple (nth_or_nil logs c))) (chips_of n)

-- how many lines of a state's account pass
unfoldable pub amount : (Triple → Bool) → ℕ → State → ℕ
amount p n state = standing_count p state.standing + delivered_count p n state.logs

-- ---- the account of the machine of a state

account_at-closed : (p : Triple → Bool) (n : ℕ) (state : State) (c : ℕ) → c < 2 ^ n →
    count_by p (account_at (closed n state) c) ≡ sum_by (λ r. one p (standing_triple c r.message))
    (standing_at c state.standing) + count_by p (filter_map delivered_triple (nth_or_nil state.logs c))
unfolding closed queue
account_at-closed p n state c l =
    let here : sum_by (one p) (map (standing_triple c) (nth_or_nil (closed n state).buffers c))
    ≡ sum_by (λ r. one p (standing_triple c r.message)) (standing_at c state.standing) =
    sum_by-map (one p) (standing_triple c) (nth_or_nil (closed n state).buffers c)
    ∙ (ap (sum_by (λ m. one p (standing_triple c m))) (nth_or_nil-closed n state c l)
    ∙ (sum_by-map (λ m. one p (standing_triple c m)) (λ r. r.message) (in_order (standing_at c state.standing))
    ∙ sum_by-in_order (λ r. one p (standing_triple c r.message)) (standing_at c state.standing))) in
    sum_by-append (one p) (map (standing_triple c) (nth_or_nil (closed n state).buffers c))
    (filter_map delivered_triple (nth_or_nil state.logs c))
    ∙ ap (λ k. k + count_by p (filter_map delivered_triple (nth_or_nil state.logs c))) here

pub account-closed : (p : Triple → Bool) (n : ℕ) (state : State) → AllInCube n state.standing
    → count_by p (account n (closed n state)) ≡ amount p n state
unfolding account amount
account-closed p n state h =
    sum_by-flat_map (one p) (account_at (closed n state)) (chips_of n)
    ∙ (sum_by-range (λ c. sum_by (one p) (account_at (closed n state) c))
    (λ c. sum_by (λ r. one p (standing_triple c r.message)) (standing_at c state.standing) + count_by p
    (filter_map delivered_triple (nth_or_nil state.logs c))) 0 (2 ^ n)
    (λ c k l. account_at-closed p n state c (omega arith))
    ∙ (sum_by-plus (λ c. sum_by (λ r. one p (standing_triple c r.message)) (standing_at c state.standing))
    (λ c. count_by p (filter_map delivered_triple (nth_or_nil state.logs c))) (chips_of n)
    ∙ ap (λ k. k + delivered_count p n state.logs)
    (sum_by_chips n (λ c r. one p (standing_triple c r.message)) state.standing h)))

-- ---- events

pub no_delivery : (ms : List Message) → filter_map delivered_triple (map Injected ms) ≡ []
no_delivery [] = refl
no_delivery (m ∷ ms) = no_delivery ms

-- what a chip sends has its number in the tag
injections : (n clock c : ℕ) (chip : List Processor) (ps : List ℕ)
    → filter_map injected_triple (map Injected (messages_sent n clock c chip ps))
    ≡ map (standing_triple c) (messages_sent n clock c chip ps)
injections n clock c chip [] = refl
injections n clock c chip (p ∷ ps) =
    ap (λ z. standing_triple c (message_sent n clock c chip p) ∷ z) (injections n clock c chip ps)

pub deliveries : (c : ℕ) (ms : List Message)
    → filter_map delivered_triple (map (λ m. Delivered c m) ms) ≡ map (done_triple c) ms
deliveries c [] = refl
deliveries c (m ∷ ms) = ap (λ z. done_triple c m ∷ z) (deliveries c ms)

pub no_injection : (b : ℕ) (ms : List Message) → filter_map injected_triple (map (λ m. Delivered b m) ms) ≡ []
no_injection b [] = refl
no_injection b (m ∷ ms) = no_injection b ms

-- what more events add to a count over all logs
pub more_events : (p : Triple → Bool) (n : ℕ) (h : ℕ → Event → Option Triple) (logs : List (List Event)) (more : ℕ
    → List Event) →
    sum_by (λ c. count_by p (filter_map (h c) (nth_or_nil (each_chip n (λ b. nth_or_nil logs b ++ more b)) c))) (chips_of n)
    ≡ sum_by (λ c. count_by p (filter_map (h c) (nth_or_nil logs c))) (chips_of n) + sum_by
    (λ c. count_by p (filter_map (h c) (more c))) (chips_of n)
more_events p n h logs more =
    sum_by-range (λ c. count_by p (filter_map (h c) (nth_or_nil (each_chip n (λ b. nth_or_nil logs b ++ more b)) c)))
    (λ c. count_by p (filter_map (h c) (nth_or_nil logs c)) + count_by p (filter_map (h c) (more c))) 0 (2 ^ n)
    (λ c k l. ap (λ z. count_by p (filter_map (h c) z))
    (get_or-each_below (2 ^ n) (λ b. nth_or_nil logs b ++ more b) c [] (omega arith))
    ∙ (ap (count_by p) (filter_map-append (h c) (nth_or_nil logs c) (more c))
    ∙ sum_by-append (one p) (filter_map (h c) (nth_or_nil logs c)) (filter_map (h c) (more c))))
    ∙ sum_by-plus (λ c. count_by p (filter_map (h c) (nth_or_nil logs c))) (λ c. count_by p (filter_map (h c) (more c)))
    (chips_of n)

-- ---- injection

-- how many lines of the messages that are taken pass
unfoldable pub fresh_count : (Triple → Bool) → ℕ → ℕ → State → ℕ
fresh_count p n cap state =
    sum_by (λ c. sum_by (λ q. one p (standing_triple c (message_sent n state.clock c (chip_at state.chips c) q)))
    (taken_at cap state c)) (chips_of n)

sent_at : ℕ → ℕ → State → ℕ → List Message
sent_at n cap state c = messages_sent n state.clock c (chip_at state.chips c) (taken_at cap state c)

new_deliveries : (p : Triple → Bool) (n cap : ℕ) (state : State)
    → sum_by (λ c. count_by p (filter_map delivered_triple (map Injected (sent_at n cap state c)))) (chips_of n) ≡ 0
new_deliveries p n cap state =
    sum_by-none (λ c. count_by p (filter_map delivered_triple (map Injected (sent_at n cap state c)))) (chips_of n)
    (λ c. ap (count_by p) (no_delivery (sent_at n cap state c)))

new_injections : (p : Triple → Bool) (n cap : ℕ) (state : State)
    → sum_by (λ c. count_by p (filter_map injected_triple (map Injected (sent_at n cap state c)))) (chips_of n)
    ≡ fresh_count p n cap state
unfolding fresh_count sent_at
new_injections p n cap state =
    sum_by-same (λ c. count_by p (filter_map injected_triple (map Injected (sent_at n cap state c))))
    (λ c. sum_by (λ q. one p (standing_triple c (message_sent n state.clock c (chip_at state.chips c) q)))
    (taken_at cap state c)) (chips_of n)
    (λ c. ap (count_by p) (injections n state.clock c (chip_at state.chips c) (taken_at cap state c))
    ∙ (sum_by-map (one p) (standing_triple c) (sent_at n cap state c)
    ∙ sum_by-map (λ m. one p (standing_triple c m)) (message_sent n state.clock c (chip_at state.chips c))
    (taken_at cap state c)))

new_standing : (p : Triple → Bool) (n cap : ℕ) (state : State)
    → standing_count p (flat_map (new_records n cap state) (chips_of n)) ≡ fresh_count p n cap state
unfolding fresh_count
new_standing p n cap state =
    sum_by-flat_map (λ r. one p (triple_of r)) (new_records n cap state) (chips_of n)
    ∙ sum_by-same (λ c. sum_by (λ r. one p (triple_of r)) (new_records n cap state c))
    (λ c. sum_by (λ q. one p (standing_triple c (message_sent n state.clock c (chip_at state.chips c) q)))
    (taken_at cap state c)) (chips_of n)
    (λ c. sum_by-map (λ r. one p (triple_of r)) (new_record n state c) (taken_at cap state c))

pub amount-after_injection : (p : Triple → Bool) (n cap : ℕ) (state : State)
    → amount p n (after_injection n cap state) ≡ amount p n state + fresh_count p n cap state
unfolding amount after_injection sent_at
amount-after_injection p n cap state =
    omega (
      arith,
      sum_by-append (λ r. one p (triple_of r)) state.standing (flat_map (new_records n cap state) (chips_of n)),
      new_standing p n cap state,
      more_events p n (λ c. delivered_triple) state.logs (λ c. map Injected (sent_at n cap state c)),
      new_deliveries p n cap state,
    )

pub injected-after_injection : (p : Triple → Bool) (n cap : ℕ) (state : State)
    → injected_count p n (after_injection n cap state).logs ≡ injected_count p n state.logs + fresh_count p n cap state
unfolding after_injection sent_at
injected-after_injection p n cap state =
    omega (
      arith,
      more_events p n (λ c. injected_triple) state.logs (λ c. map Injected (sent_at n cap state c)),
      new_injections p n cap state,
    )

-- ---- a dimension

-- a record that crosses keeps its line
pub triple_of-across : (d cycle : ℕ) (r : Standing) → triple_of (record_across d cycle r) ≡ triple_of r
triple_of-across d cycle r =
    let same : bit_xor (bit_xor r.chip (2 ^ d)) (bit_xor r.message.rel (2 ^ d)) ≡ bit_xor r.chip r.message.rel =
    xor_across r.chip r.message.rel (2 ^ d) in
    λ i. record {
      tag = r.message.tag;
      target = record { chip = same i; proc = r.message.proc };
      payload =
          r.message.payload;
    }

triple_of-step : (leaves : Standing → Bool) (d cycle : ℕ) (r : Standing)
    → triple_of (step_of_record leaves d cycle r) ≡ triple_of r
triple_of-step leaves d cycle r =
    ⊎_elim (λ (e : leaves r ≡ true). rw e (triple_of-across d cycle r)) (λ (e : leaves r ≡ false). rw e refl)
    (cases_Bool (leaves r))

pub standing_count-after_dimension : (p : Triple → Bool) (routing : Routing) (cap d cycle : ℕ) (set : List Standing)
    → standing_count p (after_dimension routing cap d cycle set) ≡ standing_count p set
unfolding after_dimension
standing_count-after_dimension p routing cap d cycle set =
    sum_by-map (λ r. one p (triple_of r)) (step_of_record (leaves routing cap d set) d cycle) set
    ∙ sum_by-same (λ r. one p (triple_of (step_of_record (leaves routing cap d set) d cycle r))) (λ r. one p (triple_of r))
    set (λ r. ap (one p) (triple_of-step (leaves routing cap d set) d cycle r))

-- ---- delivery

sum_by-filter_same : {X : Type 0} (t : X → Bool) (f g : X → ℕ) (xs : List X) → ((x : X) → t x ≡ true → f x ≡ g x)
    → sum_by f (filter t xs) ≡ sum_by g (filter t xs)
sum_by-filter_same t f g [] same = refl
sum_by-filter_same t f g (x ∷ xs) same =
    ⊎_elim (λ (e : t x ≡ true). rw e
    (omega (
      arith,
      sum_by-cons f x (filter t xs),
      sum_by-cons g x (filter t xs),
      same x e,
      sum_by-filter_same t f g xs same,
    )))
    (λ (e : t x ≡ false). rw e (sum_by-filter_same t f g xs same)) (cases_Bool (t x))

pub AllInCube-filter : (n : ℕ) (t : Standing → Bool) (set : List Standing) → AllInCube n set
    → AllInCube n (filter t set)
AllInCube-filter n t [] h = tt
AllInCube-filter n t (r ∷ set) h =
    ⊎_elim (λ (e : t r ≡ true). rw e (h.0, AllInCube-filter n t set h.1))
    (λ (e : t r ≡ false). rw e (AllInCube-filter n t set h.1)) (cases_Bool (t r))

-- a delivered message is where it was bound
done_is_bound : (chips : Chips) (set : List Standing) (r : Standing) → is_delivered chips set r ≡ true
    → done_triple r.chip r.message ≡ triple_of r
done_is_bound chips set r e =
    let home : r.message.rel ≡ 0 =
    eqb-true r.message.rel 0
    (and_parts (has_arrived r.message)
    (can_receive (chip_at chips r.chip) r.message.proc && not (list_any (is_rival r) set)) e).0 in
    let same : r.chip ≡ bit_xor r.chip r.message.rel = sym (ap (bit_xor r.chip) home ∙ xor_zero_r r.chip) in
    λ i. record {
      tag = r.message.tag;
      target = record { chip = same i; proc = r.message.proc };
      payload =
          r.message.payload;
    }

done_at : (p : Triple → Bool) (chips : Chips) (set : List Standing) (c : ℕ) →
    count_by p (filter_map delivered_triple (map (λ m. Delivered c m) (delivered_at chips set c)))
    ≡ sum_by (λ r. one p (done_triple c r.message)) (standing_at c (filter (is_delivered chips set) set))
unfolding delivered_at
done_at p chips set c =
    let here : List Standing = filter (is_delivered chips set) (standing_at c set) in
    ap (count_by p) (deliveries c (messages_of (in_order here)))
    ∙ (sum_by-map (one p) (done_triple c) (messages_of (in_order here))
    ∙ (sum_by-map (λ m. one p (done_triple c m)) (λ r. r.message) (in_order here)
    ∙ (sum_by-in_order (λ r. one p (done_triple c r.message)) here
    ∙ ap (sum_by (λ r. one p (done_triple c r.message))) (filter_twice (is_delivered chips set) (is_at c) set))))

-- what is delivered, over all chips
done_count : (p : Triple → Bool) (n : ℕ) (chips : Chips) (set : List Standing) → AllInCube n set →
    sum_by (λ c. count_by p (filter_map delivered_triple (map (λ m. Delivered c m) (delivered_at chips set c))))
    (chips_of n) ≡ standing_count p (filter (is_delivered chips set) set)
done_count p n chips set h =
    sum_by-same (λ c. count_by p (filter_map delivered_triple (map (λ m. Delivered c m) (delivered_at chips set c))))
    (λ c. sum_by (λ r. one p (done_triple c r.message)) (standing_at c (filter (is_delivered chips set) set)))
    (chips_of n) (done_at p chips set)
    ∙ (sum_by_chips n (λ c r. one p (done_triple c r.message)) (filter (is_delivered chips set) set)
    (AllInCube-filter n (is_delivered chips set) set h)
    ∙ sum_by-filter_same (is_delivered chips set) (λ r. one p (done_triple r.chip r.message))
    (λ r. one p (triple_of r)) set (λ r e. ap (one p) (done_is_bound chips set r e)))

pub amount-after_delivery : (p : Triple → Bool) (n : ℕ) (state : State) → AllInCube n state.standing
    → amount p n (after_delivery n state) ≡ amount p n state
unfolding amount after_delivery
amount-after_delivery p n state h =
    omega (
      arith,
      more_events p n (λ c. delivered_triple) state.logs
          (λ c. map (λ m. Delivered c m) (delivered_at state.chips state.standing c)),
      done_count p n state.chips state.standing h,
      sum_by-filter_both (is_delivered state.chips state.standing)
          (λ r. not (is_delivered state.chips state.standing r)) (λ r. refl) (λ r. one p (triple_of r)) state.standing,
    )

pub injected-after_delivery : (p : Triple → Bool) (n : ℕ) (state : State)
    → injected_count p n (after_delivery n state).logs ≡ injected_count p n state.logs
unfolding after_delivery
injected-after_delivery p n state =
    omega (
      arith,
      more_events p n (λ c. injected_triple) state.logs
          (λ c. map (λ m. Delivered c m) (delivered_at state.chips state.standing c)),
      sum_by-none (λ c. count_by p
          (filter_map injected_triple (map (λ m. Delivered c m) (delivered_at state.chips state.standing c))))
          (chips_of n)
          (λ c. ap (count_by p) (no_injection c (delivered_at state.chips state.standing c))),
    )
