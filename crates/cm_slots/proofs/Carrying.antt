-- Rows that are rewritten lane by lane, and one chip's slots as a pass goes from row to row.
use Rattle.std.proofs.Common.{◌≡◌, ◌≢◌, ℕ, zero, suc, ◌<◌, ◌≤◌, ◌==◌, ◌++◌, Bool, true, false, if◌then◌else◌, List, []}
use Rattle.std.proofs.Common.{◌∷◌, length, get_or, min, refl, arith, ◌+◌, ◌*◌, ◌/◌, ◌%◌, ◌^◌, set, sym, ◌∙◌, ⊎_elim}
use Rattle.std.specs.Prelude.{bit_xor}
use Rattle.std.specs.Int.Bits.{xor_zero_r}
use Rattle.std.proofs.lemmas.Nat.{xor_block, xor_comm}
use Rattle.std.proofs.lemmas.Bool.{cases_eq}
use Rattle.std.proofs.lemmas.List.{length-append, get_or_append_left, get_or_push, get_or_past, length-set, get_or-set_same}
use Rattle.std.proofs.lemmas.List.{get_or-set_other}
use Rattle.cm_slots.specs.Slots.{crosses, comers, is_taken, first_of, slot_in, slot_behind, leaver_in, IsCarried}
use Rattle.cm_slots.specs.Slots.{AreSlots}

-- the first so many lanes hold what they are to hold, the others what they held
pub record AreDone (to_hold : ℕ → ℕ) (old now : List ℕ) (count : ℕ) : Type 0 where
  pub long : length now ≡ length old
  pub done : (i : ℕ) → i < count → get_or now i 0 ≡ to_hold i
  pub ahead : (i : ℕ) → count ≤ i → get_or now i 0 ≡ get_or old i 0

-- so many lanes from one on hold what they are to hold, the others what they held
pub record AreDoneFrom (at : ℕ) (to_hold : ℕ → ℕ) (old now : List ℕ) (count : ℕ) : Type 0 where
  pub long : length now ≡ length old
  pub done : (j : ℕ) → j < count → get_or now (at + j) 0 ≡ to_hold j
  pub before : (i : ℕ) → i < at → get_or now i 0 ≡ get_or old i 0
  pub behind : (i : ℕ) → at + count ≤ i → get_or now i 0 ≡ get_or old i 0

-- one lane more
one_more_lane : (to_hold : ℕ → ℕ) (old now : List ℕ) (count next value : ℕ) → next ≡ suc count → count < length old
    → value ≡ to_hold count → AreDone to_hold old now count → AreDone to_hold old (set now count value) next
one_more_lane to_hold old now count next value one inside is was = record {
  long = length-set now count value ∙ was.long;
  done = λ i h. ⊎_elim
      (λ (e : i ≡ count). rw (e, get_or-set_same now count value 0 (omega (arith, was.long))) is)
      (λ (e : i ≢ count). rw (get_or-set_other now count i value 0 e) (was.done i (omega (arith, e, one))))
      (cases_eq i count);
  ahead = λ i h. get_or-set_other now count i value 0 (omega (arith, one)) ∙ was.ahead i (omega (arith, one));
}

-- four lanes more
pub four_more_lanes : (to_hold : ℕ → ℕ) (old now : List ℕ) (k a b c d : ℕ) → k * 4 + 3 < length old
    → a ≡ to_hold (k * 4) → b ≡ to_hold (k * 4 + 1) → c ≡ to_hold (k * 4 + 2) → d ≡ to_hold (k * 4 + 3)
    → AreDone to_hold old now (k * 4)
    → AreDone to_hold old (set (set (set (set now (k * 4) a) (k * 4 + 1) b) (k * 4 + 2) c) (k * 4 + 3) d) ((k + 1) * 4)
four_more_lanes to_hold old now k a b c d inside first second third fourth was =
    one_more_lane to_hold old (set (set (set now (k * 4) a) (k * 4 + 1) b) (k * 4 + 2) c) (k * 4 + 3) ((k + 1) * 4) d
    (omega arith) inside fourth
    (one_more_lane to_hold old (set (set now (k * 4) a) (k * 4 + 1) b) (k * 4 + 2) (k * 4 + 3) c (omega arith)
    (omega (arith, inside)) third
    (one_more_lane to_hold old (set now (k * 4) a) (k * 4 + 1) (k * 4 + 2) b (omega arith) (omega (arith, inside)) second
    (one_more_lane to_hold old now (k * 4) (k * 4 + 1) a (omega arith) (omega (arith, inside)) first was)))

-- ---- one chip's slots, when rows are changed elsewhere

-- a row in which a chip's slot is as it was
pub row_changed : (rest : List (List ℕ)) (k : ℕ) (row : List ℕ) (i j : ℕ) → k < length rest
    → get_or row i 0 ≡ slot_behind rest i k → slot_behind (set rest k row) i j ≡ slot_behind rest i j
row_changed rest k row i j inside same = ⊎_elim
    (λ (e : j ≡ k). rw (e, get_or-set_same rest k row [] inside) same)
    (λ (e : j ≢ k). rw (get_or-set_other rest k j row [] e) refl)
    (cases_eq j k)

-- the first slot is as it was, and so are the others
pub same_lane : (first : List ℕ) (rest : List (List ℕ)) (old_first : List ℕ) (old_rest : List (List ℕ)) (i : ℕ)
    → get_or first i 0 ≡ get_or old_first i 0 → ((j : ℕ) → slot_behind rest i j ≡ slot_behind old_rest i j) → (j : ℕ)
    → slot_in first rest i j ≡ slot_in old_first old_rest i j
same_lane first rest old_first old_rest i same behind zero = same
same_lane first rest old_first old_rest i same behind (suc j) = behind j

-- who is carried, and the slots, are as they were
pub same_carried : (p : ℕ) (old : ℕ → ℕ) (was now : ℕ) (before after : ℕ → ℕ) → now ≡ was
    → ((j : ℕ) → after j ≡ before j) → IsCarried p old was before → IsCarried p old now after
same_carried p old was now before after same each carried = record {
  here = same ∙ carried.here;
  earlier = λ j h. each j ∙ carried.earlier j h;
  later = λ j h. each j ∙ carried.later j h;
}

-- ---- the first of which something is true

first_of-le : (test : ℕ → Bool) (n : ℕ) → first_of test n ≤ n
unfolding first_of
first_of-le test zero = omega arith
first_of-le test (suc n) = grind (arith, first_of-le test n)

-- a number before which the test is true of none, and of which it is true if it is not the last
pub first_of-is : (test : ℕ → Bool) (n q : ℕ) → q ≤ n → ((j : ℕ) → j < q → test j ≡ false)
    → (q < n → test q ≡ true) → first_of test n ≡ q
unfolding first_of
first_of-is test zero q low fails passes = omega arith
first_of-is test (suc n) q low fails passes = grind (arith, first_of-is test n, fails n)

-- where it is not true, all numbers before were tried
first_of-last : (test : ℕ → Bool) (n : ℕ) → test (first_of test n) ≡ false → first_of test n ≡ n
unfolding first_of
first_of-last test zero fails = refl
first_of-last test (suc n) fails = grind arith

-- ---- who leaves, one row more

carried_on : (goes : Bool) (k p : ℕ) (old now new : ℕ → ℕ) (here next : ℕ) → p ≤ k → (goes ≡ false → p ≡ k)
    → next ≡ (if goes then here else now k) → new k ≡ (if goes then now k else here)
    → ((j : ℕ) → j ≢ k → new j ≡ now j) → IsCarried p old here now
    → IsCarried (if goes then p else suc k) old next new
carried_on goes k p old now new here next low last next_is new_is same was = grind arith

pub none_carried : (d : ℕ) (old : ℕ → ℕ) → IsCarried (leaver_in d 0 old) old (old 0) (λ j. old (suc j))
unfolding first_of
none_carried d old = record { here = refl; earlier = λ j h. absurd (omega arith); later = λ j h. refl }

pub one_more_carried : (d k : ℕ) (old now new : ℕ → ℕ) (here next : ℕ)
    → next ≡ (if crosses d here then here else now k) → new k ≡ (if crosses d here then now k else here)
    → ((j : ℕ) → j ≢ k → new j ≡ now j) → IsCarried (leaver_in d k old) old here now
    → IsCarried (leaver_in d (suc k) old) old next new
unfolding first_of
one_more_carried d k old now new here next next_is new_is same was =
    carried_on (crosses d (old (leaver_in d k old))) k (leaver_in d k old) old now new (old (leaver_in d k old)) next
    (first_of-le (λ j. crosses d (old j)) k) (first_of-last (λ j. crosses d (old j)) k)
    (rw was.here at next_is) (rw was.here at new_is) same (rw was.here at was)

-- ---- who comes

-- of a queue behind which somebody comes, as far back as slot k: who is carried, and what the slots hold
pub record IsBrought (k : ℕ) (xs : List ℕ) (comes : ℕ) (carried : ℕ) (slots : ℕ → ℕ) : Type 0 where
  pub here : carried ≡ get_or (xs ++ comes ∷ []) (min k (length xs)) 0
  pub ahead : (j : ℕ) → j < k → slots j ≡ get_or xs j 0
  pub passed : (j : ℕ) → k ≤ j → slots j ≡ get_or (xs ++ comes ∷ []) (suc j) 0

pub one_more_brought : (k comes : ℕ) (xs : List ℕ) (old now new : ℕ → ℕ) (here next : ℕ) → AreSlots old xs
    → next ≡ (if now k == 0 then here else now k) → new k ≡ (if now k == 0 then 0 else here)
    → ((j : ℕ) → j ≢ k → new j ≡ now j) → IsBrought (suc k) xs comes here now → IsBrought k xs comes next new
one_more_brought k comes xs old now new here next are next_is new_is same was =
    let some : (j : ℕ) → j < length xs → get_or xs j 0 ≢ 0 = grind (arith, are.taken) in
    grind (arith, length-append, get_or_append_left, get_or_push, get_or_past)

all_brought : (xs : List ℕ) (comes : ℕ) (slots old : ℕ → ℕ) → length xs < 15 → (comes ≢ 0 → is_taken comes ≡ true)
    → AreSlots old xs → ((j : ℕ) → slots j ≡ get_or (xs ++ comes ∷ []) j 0) → AreSlots slots (xs ++ comers comes)
all_brought xs comes slots old few taken are is =
    grind (arith, length-append, get_or_append_left, get_or_push, get_or_past)

pub has_come : (xs : List ℕ) (comes : ℕ) (slots old : ℕ → ℕ) → length xs < 15 → (comes ≢ 0 → is_taken comes ≡ true)
    → AreSlots old xs → IsBrought 0 xs comes (slots 0) (λ j. slots (suc j)) → AreSlots slots (xs ++ comers comes)
has_come xs comes slots old few taken are all = all_brought xs comes slots old few taken are read where
  read : (j : ℕ) → slots j ≡ get_or (xs ++ comes ∷ []) j 0
  read zero = grind (arith, all.here)
  read (suc j) = all.passed j (omega arith)

-- ---- four lanes side by side

-- where the lane of the four comes from
pub lane_of_four : (dims k j low : ℕ) → dims % 4 ≡ low → j < 4
    → bit_xor k (dims % 64 / 4) * 4 + bit_xor low j ≡ bit_xor (k * 4 + j) (dims % 64)
lane_of_four dims k j low is below =
    let whole : dims % 64 / 4 * 2 ^ 2 + low ≡ dims % 64 = omega arith in
    rw (xor_comm low j) (sym (rw whole at (xor_block 2 k (dims % 64 / 4) j low below (omega arith))))

pub first_of_four : (dims k low : ℕ) → dims % 4 ≡ low
    → bit_xor k (dims % 64 / 4) * 4 + low ≡ bit_xor (k * 4) (dims % 64)
first_of_four dims k low is =
    let at : k * 4 + 0 ≡ k * 4 = omega arith in
    let none : bit_xor low 0 ≡ low = xor_zero_r low in
    rw (at, none) at (lane_of_four dims k 0 low is (omega arith))
