-- Which routers have not such a room.
use Rattle.std.proofs.Common.{◌≡◌, ℕ, ◌≤◌, ◌≢◌, [], ◌||◌, ◌==◌, Bool, true, false, List, length, get_or}
use Rattle.std.proofs.Common.{Some, None, refl, sym, subst, arith, if◌then◌else◌}
use Rattle.std.specs.Prelude.{◌↔◌, IsTrue, nat_lt}
use Rattle.std.specs.List.{All, list_all}
use Rattle.std.proofs.lemmas.Bool.Decides.{nat_tests}
use Rattle.std.proofs.lemmas.List.Elements.{All-get_or, All-from_get_or}
use Rattle.std.proofs.lemmas.List.Sums.{AllPass-from_list_all, list_all-from_AllPass}
use Rattle.cm_model.specs.declared.message.Message.{Message}
use Rattle.lab_machine.specs.declared.machine.RoomFault.TheVariants.{Room, Crowded}
use Rattle.lab_machine.specs.Machines.{has_room_for, room_fault}

few : (room : ℕ) (ms : List Message) → length ms ≤ room → has_room_for room ms ≡ true
few room ms l = grind (arith, nat_tests)

few_back : (room : ℕ) (ms : List Message) → has_room_for room ms ≡ true → length ms ≤ room
few_back room ms l = grind (arith, nat_tests)

all_few : (room : ℕ) (lists : List (List Message)) → All (λ ms. length ms ≤ room) lists
    → list_all (has_room_for room) lists ≡ true
all_few room lists all =
    list_all-from_AllPass (has_room_for room) lists
    (λ k d l. few room (get_or lists k d) (All-get_or (λ (ms : List Message). length ms ≤ room) lists k d l all))

all_few_back : (room : ℕ) (lists : List (List Message)) → list_all (has_room_for room) lists ≡ true
    → All (λ ms. length ms ≤ room) lists
all_few_back room lists so =
    All-from_get_or (λ (ms : List Message). length ms ≤ room) lists []
    (λ k l. few_back room (get_or lists k []) (AllPass-from_list_all (has_room_for room) lists so k [] l))

chosen : (room : ℕ) (lists : List (List Message)) (b : Bool) → room ≢ 0 → room ≤ 15
    → list_all (has_room_for room) lists ≡ b → room_fault room lists ≡ (if b then None else Some (Crowded room))
chosen room lists b some most is =
    let low : room == 0 ≡ false = grind (arith, nat_tests) in
    let high : nat_lt 15 room ≡ false = grind (arith, nat_tests) in
    λ i. if low i || high i then Some (Room room) else (if is i then None else Some (Crowded room))

not_true : (b : Bool) → (b ≡ true → IsTrue false) → b ≡ false
not_true true never = sym (never refl)
not_true false never = refl

-- where all are within, none
pub all_fit : (room : ℕ) (lists : List (List Message)) (fits : Bool) → room ≢ 0 → room ≤ 15
    → IsTrue fits ↔ All (λ ms. length ms ≤ room) lists → fits ≡ true → room_fault room lists ≡ None
all_fit room lists fits some most are so =
    chosen room lists true some most (all_few room lists (are.0 so))

-- where they are not, one is crowded
pub some_crowded : (room : ℕ) (lists : List (List Message)) (fits : Bool) → room ≢ 0 → room ≤ 15
    → IsTrue fits ↔ All (λ ms. length ms ≤ room) lists → fits ≡ false → room_fault room lists ≡ Some (Crowded room)
some_crowded room lists fits some most are so =
    chosen room lists false some most
    (not_true (list_all (has_room_for room) lists) (λ all. subst IsTrue so (are.1 (all_few_back room lists all))))
