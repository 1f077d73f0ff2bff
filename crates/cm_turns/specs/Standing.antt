-- How a worker stands in a run: its blocks and ends, before a round and when it is not yet used. Ours.
use Rattle.std.specs.Prelude.{◌≡◌, ℕ, ◌+◌, ◌-◌, ◌*◌, ◌/◌, ◌<◌, ◌≤◌, ◌^◌, List, length, get_or}
use Rattle.cm_blocks.specs.Counts.{deliveries, events_in}
use Rattle.cm_blocks.specs.Parts.{block}
use Rattle.cm_blocks.specs.Parcels.{Parcel}
use Rattle.cm_blocks.specs.Rounds.{steps_after_round}
use Rattle.cm_array.specs.Acts.{cycles_in}
use Rattle.cm_router.specs.Logs.{HaveLogRoom}
use Rattle.cm_subcube.specs.Blocks.{BlockView}
use Rattle.cm_board.specs.Courses.{Course}
use Rattle.cm_gates.specs.Gates.{IsShareOf}
use Rattle.cm_turns.specs.Lanes.{Run, before, ends_each, course, own, givers}

-- block b of a run as it is cut out, with room for all events of the run
pub record IsRunBlock (run : Run) (b : ℕ) (one : BlockView) : Type 0 where
  pub blocks : one.k ≡ run.k
  pub dims : one.kept.dims ≡ run.n
  pub room_is : one.kept.room ≡ run.room
  pub part : one.kept.part ≡ block run.n run.k b run.machine
  pub log_room : HaveLogRoom (cycles_in run.acts * (4 + run.room)) one.kept.log_rooms
  pub clock : one.kept.part.clock + cycles_in run.acts * 1 < 2 ^ 63

-- block b before a round, with room for all events behind it
pub record StandsBefore (run : Run) (r b : ℕ) (one : BlockView) : Type 0 where
  pub blocks : one.k ≡ run.k
  pub dims : one.kept.dims ≡ run.n
  pub room_is : one.kept.room ≡ run.room
  pub part : one.kept.part ≡ block run.n run.k b (before run r)
  pub log_room : HaveLogRoom (events_in run.room (steps_after_round run.n run.k run.acts r)) one.kept.log_rooms
  pub clock : one.kept.part.clock + deliveries (steps_after_round run.n run.k run.acts r) < 2 ^ 63

-- the number of a worker's block: worker w of so many has blocks w, count + w, and so on
abbrev pub block_number : ℕ → ℕ → ℕ → ℕ
block_number count w i = i * count + w

-- its ends of one sort before a round, those of its first block first, by place
pub record AreEndsBefore (run : Run) (whose : Run → ℕ → ℕ → ℕ) (r count w many : ℕ)
    (ends : List (Course Parcel)) : Type 0 where
  pub len : length ends ≡ many * ends_each run.k
  pub each : (i j : ℕ) (d : Course Parcel) → i < many → j < ends_each run.k
      → get_or ends (i * ends_each run.k + j) d ≡ course run (whose run (block_number count w i) j) j r

-- the blocks and ends of worker w of so many before a round
pub record IsWorkerBefore (run : Run) (r count w : ℕ) (blocks : List BlockView)
    (sends gets : List (Course Parcel)) : Type 0 where
  pub within : run.k ≤ run.n - run.n / 2
  pub one_of : w < count
  pub some : 0 < length blocks
  pub share : IsShareOf run.k count w blocks
  pub each : (i : ℕ) (d : BlockView) → i < length blocks → StandsBefore run r (block_number count w i) (get_or blocks i d)
  pub sends_are : AreEndsBefore run own r count w (length blocks) sends
  pub gets_are : AreEndsBefore run givers r count w (length blocks) gets

-- the same of a worker that has done nothing yet
pub record IsUnused (run : Run) (count w : ℕ) (blocks : List BlockView)
    (sends gets : List (Course Parcel)) : Type 0 where
  pub within : run.k ≤ run.n - run.n / 2
  pub one_of : w < count
  pub some : 0 < length blocks
  pub share : IsShareOf run.k count w blocks
  pub each : (i : ℕ) (d : BlockView) → i < length blocks → IsRunBlock run (block_number count w i) (get_or blocks i d)
  pub sends_are : AreEndsBefore run own 0 count w (length blocks) sends
  pub gets_are : AreEndsBefore run givers 0 count w (length blocks) gets
