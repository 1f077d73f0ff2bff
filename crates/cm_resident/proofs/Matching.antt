-- Blocks of a run, as they get the ends of their lanes one after the other.
use Rattle.std.proofs.Common.{◌≡◌, ℕ, ◌+◌, ◌<◌, ◌^◌, List, [], ◌∷◌, ◌++◌, get_or, drop, Vec, refl}
use Rattle.std.specs.declared.alloc.Global.{Global}
use Rattle.cm_blocks.specs.Parcels.{Parcel}
use Rattle.cm_subcube.specs.Blocks.{BlockView}
use Rattle.cm_board.specs.Courses.{Course}
use Rattle.cm_resident.specs.declared.worker_parts.WorkerParts.{WorkerParts}
use Rattle.cm_turns.specs.Lanes.{Run, ends_each, own, givers}
use Rattle.cm_turns.specs.Standing.{IsRunBlock}
use Rattle.cm_resident.specs.Gathering.{AreFrom, AreFirsts}
use Rattle.cm_resident.specs.Teams.{AreByPlace, AreMatched, IsWorkerParts}
use Rattle.cm_resident.proofs.Numbered.{none_yet, one_more, first_is, rest_are}
use Rattle.cm_resident.proofs.Opening.{block_ends, ends_left}

-- none yet
pub none_matched : (run : Run) (blocks : List BlockView) (sends gets : List (Vec (Course Parcel) Global))
    → AreFrom (IsRunBlock run) 0 (2 ^ run.k) blocks → AreByPlace run own 0 (ends_each run.k) sends
    → AreByPlace run givers 0 (ends_each run.k) gets → AreMatched run 0 blocks sends gets []
none_matched run blocks sends gets cut from to =
    record { blocks_left = cut; sends_left = from; gets_left = to; made = none_yet (IsWorkerParts run) }

-- one block more
pub next_matched : (run : Run) (b : ℕ) (blocks rest : List BlockView)
    (sends sends_now gets gets_now : List (Vec (Course Parcel) Global)) (made more : List WorkerParts) (one : WorkerParts)
    → AreMatched run b blocks sends gets made → b < 2 ^ run.k → more ≡ made ++ one ∷ []
    → one.block ≡ get_or blocks 0 one.block → rest ≡ drop 1 blocks
    → AreFirsts sends sends_now one.sends.items → AreFirsts gets gets_now one.gets.items
    → AreMatched run (b + 1) rest sends_now gets_now more
next_matched run b blocks rest sends sends_now gets gets_now made more one are below is first left from to =
    let each = ends_each run.k in record {
      blocks_left = rest_are (IsRunBlock run) b (2 ^ run.k) blocks rest are.blocks_left below left;
      sends_left = ends_left run own b each sends sends_now are.sends_left below one.sends.items from;
      gets_left = ends_left run givers b each gets gets_now are.gets_left below one.gets.items to;
      made = one_more (IsWorkerParts run) b made more one are.made is (record {
        cut = first_is (IsRunBlock run) b (2 ^ run.k) blocks one.block are.blocks_left below first;
        sends_are = block_ends run own b each sends sends_now are.sends_left below one.sends.items from refl;
        gets_are = block_ends run givers b each gets gets_now are.gets_left below one.gets.items to refl;
      });
    }
