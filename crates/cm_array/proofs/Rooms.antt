-- How many events more each log takes, and how many petit cycles are among acts.
use Rattle.std.proofs.Common.{◌≡◌, ◌≢◌, ℕ, ◌+◌, ◌*◌, ◌<◌, ◌≤◌, Result, Ok, Err, IfOk, OnErr, OnOk, List, [], ◌∷◌, ◌++◌, length}
use Rattle.std.proofs.Common.{get_or, set, take, cond, ◌/◌, sym, ◌∙◌, ap, arith}
use Rattle.std.proofs.Common.{mul_comm, mul_assoc}
use Rattle.std.proofs.Common.{below_more}
use Rattle.std.proofs.lemmas.List.{length-map, get_or-map, length-replicate, get_or-replicate, take_more}
use Rattle.std.proofs.lemmas.Nat.{div_below}
use Rattle.std.proofs.lemmas.List.Sums.{sum_by-append, sum_by-take-le}
use Rattle.std.proofs.Math.Nat.{mul-le-mul_right}
use Rattle.std.proofs.Math.Seq.{map-set_same}
use Rattle.std.specs.Prelude.{vec_len, vec_capacity}
use Rattle.cm_model.specs.declared.act.Act.{Act}
use Rattle.cm_router.specs.Logs.{Log, log_room, log_rooms_of}
use Rattle.cm_router.proofs.Rooms.{room_at, room_written, room_of_others}
use Rattle.cm_petit.specs.Routers.{events_of}
use Rattle.cm_array.specs.Acts.{is_cycle, cycles_in}
use Rattle.cm_array.specs.Parts.{LacksLogRoom, shares}

-- a log with the same events in its place
pub events_of-set : (logs : List Log) (c : ℕ) (was now : Log) → now.items ≡ (get_or logs c was).items
    → events_of (set logs c now) ≡ events_of logs
events_of-set logs c was now same = map-set_same (λ (log : Log). log.items) logs c now was same

-- one log more has room
pub room_made : (logs : List Log) (more c : ℕ) (log : Log) → c < length logs → vec_len log + more ≤ vec_capacity log
    → ((k : ℕ) → k < c → more ≤ room_at logs k)
    → (k : ℕ) → k < c + 1 → more ≤ room_at (set logs c log) k
room_made logs more c log l room before =
    let places : more ≤ log_room log = omega arith in
    below_more (λ k. more ≤ room_at (set logs c log) k) c
    (λ k h. let other : k ≢ c = omega arith in omega (arith, room_of_others logs c k log other, before k h))
    (omega (arith, room_written logs c log l, places))

-- the logs after it are as they were
pub room_kept : (logs was : List Log) (c : ℕ) (log : Log) → ((k : ℕ) → c ≤ k → room_at logs k ≡ room_at was k)
    → (k : ℕ) → c + 1 ≤ k → room_at (set logs c log) k ≡ room_at was k
room_kept logs was c log before = λ k h. let other : k ≢ c = omega arith in
    room_of_others logs c k log other ∙ before k (omega arith)

-- a log that could not grow has too little room
pub room_lacks : (logs was : List Log) (more c : ℕ) (none : Log) → c < length logs → length logs ≡ length was → more ≢ 0
    → vec_capacity (get_or logs c none) < vec_len (get_or logs c none) + more → room_at logs c ≡ room_at was c
    → LacksLogRoom more (log_rooms_of was)
room_lacks logs was more c none l same some full kept = record {
  chip = c;
  is_chip = omega (arith, length-map was log_room);
  few =
      let few : log_room (get_or logs c none) < more = omega arith in
      omega (arith, get_or-map log_room logs c none 0 l, kept, few);
}

-- a fact that holds holds of every error
pub on_err : {A E P : Type 0} (result : Result A E) → P → OnErr result P
on_err (Ok x) p = tt
on_err (Err e) p = p

-- a fact of a result that follows from another
pub on_err_from : {A E P Q : Type 0} (result : Result A E) → (P → Q) → OnErr result P → OnErr result Q
on_err_from (Ok x) f p = tt
on_err_from (Err e) f p = f p

pub on_ok_from : {A E P Q : Type 0} (result : Result A E) → (P → Q) → OnOk result P → OnOk result Q
on_ok_from (Ok x) f p = f p
on_ok_from (Err e) f p = tt

pub if_ok_from : {A E : Type 0} (P Q : A → Type 0) (result : Result A E) → ((x : A) → P x → Q x) → IfOk result P
    → IfOk result Q
if_ok_from P Q (Ok x) f p = f x p
if_ok_from P Q (Err e) f p = tt

-- ---- room in a row for a run of acts

-- of the room that all acts need, so much is left for the next one
pub room_for_next : (all done one most before now : ℕ) → done + one ≤ all → all * most ≤ before
    → before ≤ now + done * most → one * most ≤ now
room_for_next all done one most before now fits room lost =
    omega (arith, mul-le-mul_right most fits, room, lost)

-- what is lost adds up
pub more_lost : (done one most first second third : ℕ) → first ≤ second + done * most → second ≤ third + one * most
    → first ≤ third + (done + one) * most
more_lost done one most first second third was is = omega (arith, was, is)

-- a row that takes fewer than all chips may tell has too little room for some chip's share
pub share_lacks : (chips cycles most room : ℕ) → 0 < chips → room < cycles * (chips * most)
    → LacksLogRoom (cycles * most) (shares chips room)
share_lacks chips cycles most room some few = record {
  chip = 0;
  is_chip = omega (arith, some, length-replicate chips (room / chips));
  few =
      let same : cycles * (chips * most) ≡ cycles * most * chips =
      ap (λ (k : ℕ). cycles * k) (mul_comm chips most) ∙ sym (mul_assoc cycles most chips) in
      omega (
        arith,
        get_or-replicate chips 0 (room / chips) 0 some,
        div_below room chips (cycles * most) some (omega (arith, few, same)),
      );
}

-- ---- petit cycles among acts

-- petit cycles of two lists of acts add up
pub cycles_in-append : (first second : List Act) → cycles_in (first ++ second) ≡ cycles_in first + cycles_in second
cycles_in-append first second = sum_by-append (λ a. cond (is_cycle a) 1 0) first second

-- one act more
pub cycles_in-more : (acts : List Act) (i : ℕ) (a : Act) → i < length acts → a ≡ get_or acts i a
    → cycles_in (take (i + 1) acts) ≡ cycles_in (take i acts) + cycles_in (a ∷ [])
cycles_in-more acts i a l is =
    ap cycles_in (take_more acts i a l ∙ ap (λ (x : Act). take i acts ++ x ∷ []) (sym is))
    ∙ cycles_in-append (take i acts) (a ∷ [])

-- some of the acts have no more petit cycles than all
pub cycles_in-part : (acts : List Act) (i : ℕ) → cycles_in (take i acts) ≤ cycles_in acts
cycles_in-part acts i = sum_by-take-le (λ a. cond (is_cycle a) 1 0) acts i
