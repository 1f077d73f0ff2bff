-- Logs that are emptied one after another, and chips that are changed one after another.
use Rattle.std.proofs.Common.{◌≡◌, ◌≢◌, ℕ, suc, ◌+◌, ◌<◌, ◌≤◌, List, [], ◌∷◌, map, length, get_or, set, refl, ap, ◌∙◌}
use Rattle.std.proofs.Common.{⊎_elim, below_more, arith}
use Rattle.std.specs.Prelude.{vec_len, vec_capacity}
use Rattle.std.specs.List.{range_with_len}
use Rattle.std.proofs.lemmas.Bool.{cases_eq}
use Rattle.std.proofs.lemmas.List.{get_or-set_same, get_or-set_other, length-map}
use Rattle.cm_model.specs.declared.message.Event.{Event}
use Rattle.cm_model.specs.Each.{tabulate}
use Rattle.cm_router.specs.Logs.{Log, log_room, log_rooms_of, HaveLogRoom}
use Rattle.cm_router.proofs.Rooms.{room_at, room_written, room_of_others}
use Rattle.cm_petit.specs.Routers.{events_of}

-- an element that is written, and the others
pub written : {X : Type 0} (P : ℕ → X → Type 0) (xs : List X) (i : ℕ) (x : X) → i < length xs → P i x
    → ((k : ℕ) (d : X) → k < i → P k (get_or xs k d)) → (k : ℕ) (d : X) → k < i + 1 → P k (get_or (set xs i x) k d)
written {X} P xs i x h here before k d l =
    ⊎_elim
    (λ (s : k ≡ i). rw (s, get_or-set_same xs i x d h) here)
    (λ (o : k ≢ i). rw (get_or-set_other xs i k x d o) (before k d (omega (arith, o))))
    (cases_eq k i)

pub roomed : (logs : List Log) (more c : ℕ) (log : Log) → c < length logs → vec_len log + more ≤ vec_capacity log
    → ((k : ℕ) → k < c → more ≤ room_at logs k) → (k : ℕ) → k < c + 1 → more ≤ room_at (set logs c log) k
roomed logs more c log l room before =
    let places : more ≤ log_room log = omega arith in
    below_more (λ k. more ≤ room_at (set logs c log) k) c
    (λ k h. let other : k ≢ c = omega arith in omega (arith, room_of_others logs c k log other, before k h))
    (omega (arith, room_written logs c log l, places))

-- where a reading of each element is alike, the readings are one for each number
alike_after : {X Y : Type 0} (read : X → Y) (y : Y) (xs : List X) (first : ℕ)
    → ((k : ℕ) (d : X) → k < length xs → read (get_or xs k d) ≡ y)
    → map read xs ≡ map (λ (c : ℕ). y) (range_with_len first (length xs))
alike_after read y [] first each = refl
alike_after read y (x ∷ xs) first each =
    λ i. each 0 x (omega arith) i
    ∷ alike_after read y xs (first + 1) (λ k d below. each (suc k) d (omega (arith, below))) i

pub readings-alike : {X Y : Type 0} (read : X → Y) (y : Y) (xs : List X) (count : ℕ) → length xs ≡ count
    → ((k : ℕ) (d : X) → k < length xs → read (get_or xs k d) ≡ y) → map read xs ≡ tabulate 0 count (λ c. y)
unfolding tabulate
readings-alike read y xs count long each = alike_after read y xs 0 each
    ∙ ap (λ (n : ℕ). map (λ (c : ℕ). y) (range_with_len 0 n)) long

pub all_empty : (logs : List Log) (count : ℕ) → length logs ≡ count
    → ((k : ℕ) (d : Log) → k < length logs → (get_or logs k d).items ≡ [])
    → events_of logs ≡ tabulate {X = List Event} 0 count (λ c. [])
all_empty logs count long each = readings-alike (λ (log : Log). log.items) [] logs count long each

pub all_roomed : (logs : List Log) (more : ℕ) → ((k : ℕ) → k < length logs → more ≤ room_at logs k)
    → HaveLogRoom more (log_rooms_of logs)
all_roomed logs more each i h = each i (omega (arith, h, length-map logs log_room))
