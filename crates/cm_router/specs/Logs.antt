-- Logs of events, and how many events more they take. Ours.
use Rattle.std.specs.Prelude.{◌≡◌, ℕ, ◌+◌, ◌-◌, ◌<◌, ◌≤◌, List, length, map, slice_index, Vec, vec_len, vec_capacity}
use Rattle.std.specs.declared.alloc.Global.{Global}
use Rattle.cm_model.specs.declared.message.Event.{Event}

-- the log of one chip
abbrev pub Log : Type 0
Log = Vec Event Global

-- how many events more it takes before it has to grow
abbrev pub log_room : Log → ℕ
log_room log = vec_capacity log - vec_len log

-- by chip, how many each takes
abbrev pub log_rooms_of : List Log → List ℕ
log_rooms_of logs = map log_room logs

-- each takes so many events more
abbrev pub HaveLogRoom : ℕ → List ℕ → Type 0
HaveLogRoom count log_rooms = (i : ℕ) → i < length log_rooms → count ≤ slice_index log_rooms i

-- each takes as many as before, less at most so many
pub record LoseAtMost (count : ℕ) (before after : List ℕ) : Type 0 where
  pub same : length after ≡ length before
  pub few : (i : ℕ) → i < length before → slice_index before i ≤ slice_index after i + count
