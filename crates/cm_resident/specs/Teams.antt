-- Workers of a team. Ours.
use Rattle.std.specs.Prelude.{◌≡◌, ◌↔◌, ℕ, ◌^◌, ◌<◌, List, length, get_or, Vec}
use Rattle.std.specs.declared.alloc.Global.{Global}
use Rattle.cm_blocks.specs.Parts.{block}
use Rattle.cm_blocks.specs.Parcels.{Parcel}
use Rattle.cm_subcube.specs.Blocks.{BlockView}
use Rattle.cm_board.specs.Courses.{Course}
use Rattle.cm_gates.specs.Dealing.{hand}
use Rattle.cm_resident.specs.declared.worker_parts.WorkerParts.{WorkerParts}
use Rattle.cm_turns.specs.declared.worker.Worker.{Worker}
use Rattle.cm_turns.specs.Lanes.{Run, ends_each, course, own, givers}
use Rattle.cm_turns.specs.Standing.{block_number, IsRunBlock}
use Rattle.cm_turns.specs.Workers.{IsOfTeam, HasWorked}
use Rattle.cm_resident.specs.Gathering.{AreAll, AreFrom}

-- an end, not yet used, over which block b sends or gets at place j
abbrev pub IsEnd : Run → (Run → ℕ → ℕ → ℕ) → ℕ → ℕ → Course Parcel → Type 0
IsEnd run whose j b end = end ≡ course run (whose run b j) j 0

-- the ends, not yet used, of all blocks from one on at place j
abbrev pub AreAtPlace : Run → (Run → ℕ → ℕ → ℕ) → ℕ → ℕ → Vec (Course Parcel) Global → Type 0
AreAtPlace run whose from j ends = AreFrom (IsEnd run whose j) from (2 ^ run.k) ends.items

-- the ends, not yet used, of all blocks from one on, at each of the first m places
abbrev pub AreByPlace : Run → (Run → ℕ → ℕ → ℕ) → ℕ → ℕ → List (Vec (Course Parcel) Global) → Type 0
AreByPlace run whose from m places = AreAll (AreAtPlace run whose from) m places

-- the ends, not yet used, of block b: one for each place
abbrev pub HasEnds : Run → (Run → ℕ → ℕ → ℕ) → ℕ → List (Course Parcel) → Type 0
HasEnds run whose b ends = AreAll (λ j. IsEnd run whose j b) (ends_each run.k) ends

-- block b as it was cut out, and its ends
pub record IsWorkerParts (run : Run) (b : ℕ) (one : WorkerParts) : Type 0 where
  pub cut : IsRunBlock run b one.block
  pub sends_are : HasEnds run own b one.sends.items
  pub gets_are : HasEnds run givers b one.gets.items

-- the first b blocks of a run stand among the parts of workers; the others, and their ends by place, do not yet
pub record AreMatched (run : Run) (b : ℕ) (blocks : List BlockView) (sends gets : List (Vec (Course Parcel) Global))
    (worker_parts : List WorkerParts) : Type 0 where
  pub blocks_left : AreFrom (IsRunBlock run) b (2 ^ run.k) blocks
  pub sends_left : AreByPlace run own b (ends_each run.k) sends
  pub gets_left : AreByPlace run givers b (ends_each run.k) gets
  pub made : AreAll (IsWorkerParts run) b worker_parts

-- so it is of some run
pub record AreMatchedForSome (b : ℕ) (blocks : List BlockView) (sends gets : List (Vec (Course Parcel) Global))
    (worker_parts : List WorkerParts) : Type 0 where
  pub run : Run
  pub of : AreMatched run b blocks sends gets worker_parts

-- worker w of so many has the parts of each of its blocks
pub record HasWorkerParts (run : Run) (count w : ℕ) (worker_parts : List WorkerParts) : Type 0 where
  pub share : (i : ℕ) → (i < length worker_parts) ↔ (block_number count w i < 2 ^ run.k)
  pub each : (i : ℕ) (d : WorkerParts) → i < length worker_parts → IsWorkerParts run (block_number count w i) (get_or worker_parts i d)

-- the parts of the blocks of so many workers, those of each in a hand, from one worker on
abbrev pub AreDealtFrom : Run → ℕ → ℕ → List (Vec WorkerParts Global) → Type 0
AreDealtFrom run count from hands = AreFrom (λ w hand. HasWorkerParts run count w hand.items) from count hands

-- all workers of a team for a run, in order of their numbers
pub record IsTeam (run : Run) (count : ℕ) (team : List Worker) : Type 0 where
  pub len : length team ≡ count
  pub ids : (w : ℕ) (d : Worker) → w < count → (get_or team w d).id ≡ w
  pub each : (w : ℕ) (d : Worker) → w < count → IsOfTeam run count (get_or team w d)

-- each worker of a team left blocks that are done
pub record HaveWorked (team : List Worker) (shares : List (Vec BlockView Global)) : Type 0 where
  pub len : length shares ≡ length team
  pub each : (w : ℕ) (d : Worker) (e : Vec BlockView Global) → w < length team
      → HasWorked (get_or team w d) (hand shares e w)
