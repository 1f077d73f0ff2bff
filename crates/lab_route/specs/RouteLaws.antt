-- Laws of routes, each the contract of a function of its name, and a message of which a worked route tells. Ours.
use Rattle.std.specs.Prelude.{◌≡◌, ℕ, ◌<◌, true, None, Some, IsSomeAnd, [], ◌∷◌, codes, length, slice_index_or}
use Rattle.cm_model.specs.declared.message.Message.{Message}
use Rattle.cm_model.specs.Array.{nth_or_nil}
use Rattle.cm_model.specs.Router.{has_to_cross}
use Rattle.cm_model.specs.Machine.{Machine}
use Rattle.cm_model.specs.Buffers.{sent_across}
use Rattle.cm_model.specs.Found.{same_tag}
use Rattle.lab_route.specs.declared.whereabouts.Stand.{Stand}
use Rattle.lab_route.specs.declared.waits.Wait.TheVariants as wait
use Rattle.lab_route.specs.RouteLines.{delivery_line, stand_line, undelivered_line}
use Rattle.lab_route.specs.Waits.{wait_at}

-- a message stands at place i of its chip's buffer and has to cross dimension d: if no reason to wait is told, it is the
-- one that its chip sends across
abbrev pub WhoNeedNotWaitCrosses : Type 0
WhoNeedNotWaitCrosses = (cap d i : ℕ) (machine : Machine) (stand : Stand) (m : Message)
    → i < length (nth_or_nil machine.buffers stand.chip)
    → slice_index_or (nth_or_nil machine.buffers stand.chip) i m ≡ stand.message
    → has_to_cross d stand.message ≡ true
    → wait_at cap d stand.message.tag machine (Some stand) ≡ None
    → IsSomeAnd (sent_across machine.routing cap d machine.buffers stand.chip)
    (λ q. same_tag q.tag stand.message.tag ≡ true)

-- a message to processor 15 of chip 0 that stands at chip c, at this place of so many
abbrev pub example_stand : ℕ → ℕ → ℕ → Stand
example_stand c place count = record {
  chip = c;
  place = place;
  count = count;
  message = record { rel = c; proc = 15; payload = 0; tag = record { chip = 15; proc = 0; birth = 0 } };
}

-- on a cube of four dimensions a message to processor 15 of chip 0 goes so, and these are the lines that tell it
pub record WaysAreToldSo : Type 0 where
  pub crossed : stand_line 4 0 15 (example_stand 10 1 1) [] ≡ codes "cycle 0: 15 -> 14 -> 10, place 1 of 1\n"
  pub referred : stand_line 4 6 3 (example_stand 12 1 1) []
      ≡ codes "cycle 6: 3 -> 2 -> 0 -> 4 -> 12, referred in 2, referred in 3, place 1 of 1\n"
  pub stayed : stand_line 4 2 8 (example_stand 8 2 3) [] ≡ codes "cycle 2: 8, stays, place 2 of 3\n"
  pub behind : stand_line 4 1 10 (example_stand 8 3 4) (wait.Behind 3 (record { chip = 9; proc = 0; birth = 0 }) ∷ [])
      ≡ codes "cycle 1: 10 -> 8, place 3 of 4, waits in 3 behind 9 0 0\n"
  pub cut : stand_line 4 1 1 (example_stand 1 1 1) (wait.Cut 0 ∷ wait.Cut 2 ∷ [])
      ≡ codes "cycle 1: 1, stays, place 1 of 1, waits in 0 at a cut wire, waits in 2 at a cut wire\n"
  pub unfetched : stand_line 4 1 0 (example_stand 0 1 1) (wait.Unfetched ∷ [])
      ≡ codes "cycle 1: 0, stays, place 1 of 1, waits for RECV\n"
  pub second : stand_line 4 1 0 (example_stand 0 2 2) (wait.Second (record { chip = 9; proc = 1; birth = 7 }) ∷ [])
      ≡ codes "cycle 1: 0, stays, place 2 of 2, waits for its processor behind 9 1 7\n"
  pub delivered : delivery_line 4 4 8 (record { chip = 0; proc = 15 })
      ≡ codes "cycle 4: 8 -> 0, delivered to processor 15\n"
  pub stands : undelivered_line (example_stand 3 1 1) ≡ codes "stands at 3, for processor 15 of chip 0\n"
