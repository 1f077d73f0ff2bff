-- How many events more logs take, as some of it is used.
use Rattle.std.proofs.Common.{◌≡◌, ◌≢◌, ℕ, ◌+◌, ◌<◌, ◌≤◌, List, length, set, refl, arith}
use Rattle.std.proofs.Common.{get_or-set_same, get_or-set_other}
use Rattle.std.specs.Prelude.{slice_index}
use Rattle.std.proofs.lemmas.List.{length-map, map-set}
use Rattle.cm_router.specs.Logs.{Log, log_room, log_rooms_of, HaveLogRoom, LoseAtMost}

-- how many the log of a chip takes
abbrev pub room_at : List Log → ℕ → ℕ
room_at logs c = slice_index (log_rooms_of logs) c

pub room_written : (logs : List Log) (i : ℕ) (log : Log) → i < length logs → room_at (set logs i log) i ≡ log_room log
room_written logs i log inside =
    rw (map-set log_room logs i log)
    (get_or-set_same (log_rooms_of logs) i _ 0 (omega (arith, length-map logs log_room)))

pub room_of_others : (logs : List Log) (i k : ℕ) (log : Log) → k ≢ i → room_at (set logs i log) k ≡ room_at logs k
room_of_others logs i k log other = rw (map-set log_room logs i log, get_or-set_other) refl

-- logs that are left alone lose nothing
pub lost_nothing : (count : ℕ) (rooms : List ℕ) → LoseAtMost count rooms rooms
lost_nothing count rooms = record { same = refl; few = λ i l. omega arith }

-- the room that is left
pub room_left : (most more all : ℕ) (old new : List ℕ) → most + more ≡ all → HaveLogRoom all old
    → LoseAtMost most old new → HaveLogRoom more new
room_left most more all old new whole has lost i below = grind (arith, lost.few i, has i)

pub less_room : (few all : ℕ) (rooms : List ℕ) → few ≤ all → HaveLogRoom all rooms → HaveLogRoom few rooms
less_room few all rooms l has i below = grind (arith, has i)
