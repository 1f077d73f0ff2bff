-- A machine of the laboratory: its sizes are values, so its routers may have any room. Ours.
use Rattle.std.specs.Prelude.{◌≡◌, ℕ, ◌<◌, ◌^◌, ◌==◌, ◌||◌, Bool, IsTrue, List, [], ◌∷◌}
use Rattle.std.specs.Prelude.{Option, Some, None, nat_lt, nat_le, length, if◌then◌else◌}
use Rattle.std.specs.List.{list_all}
use Rattle.cm_model.specs.declared.act.Act.{Act}
use Rattle.cm_model.specs.declared.message.Message.{Message}
use Rattle.cm_model.specs.Array.{Chips}
use Rattle.cm_model.specs.Machine.{Machine, run_of}
use Rattle.cm_router.specs.declared.routing.Routing.{Routing}
use Rattle.cm_router.specs.Routes.{routing_of}
use Rattle.cm_router.specs.Logs.{Log}
use Rattle.cm_petit.specs.Routers.{machine_from_logs, AreRouters}
use Rattle.lab_machine.specs.declared.machine.RoomFault.{RoomFault}
use Rattle.lab_machine.specs.declared.machine.RoomFault.TheVariants.{Room, Crowded}

-- a machine of a cube of n dimensions whose routers have room for cap messages each
pub record LabView : Type 0 where
  pub n : ℕ
  pub cap : ℕ
  pub machine : Machine

-- that of chips, buffers and logs by number, which route so, at a count of petit cycles
abbrev pub lab_view : ℕ → ℕ → Routing → Chips → List (List Message) → List Log → ℕ → LabView
lab_view n cap routing chips buffers logs clock =
    record { n = n; cap = cap; machine = machine_from_logs (routing_of routing) chips buffers logs clock }

-- what each of them keeps: by number a chip, a buffer within its room and a log; and its messages can be read
pub record IsLabMachine (n cap : ℕ) (routing : Routing) (chips : Chips) (buffers : List (List Message))
    (logs : List Log) (clock : ℕ) (gathered : Bool) : Type 0 where
  pub routers : AreRouters (2 ^ n) cap chips buffers logs
  pub cube : routing.cuts.dims ≡ n
  pub early : clock < 2 ^ 63
  pub joined : IsTrue gathered

-- after an act
abbrev pub lab_after : LabView → Act → LabView
lab_after lab act = record lab { machine = run_of lab.n lab.cap lab.machine (act ∷ []) }

-- no more messages than there is room for
abbrev pub has_room_for : ℕ → List Message → Bool
has_room_for room ms = nat_le (length ms) room

-- why routers with these messages have not this room: there is no such room, or more messages stand in one of them
abbrev pub room_fault : ℕ → List (List Message) → Option RoomFault
room_fault room buffers =
    if room == 0 || nat_lt 15 room then Some (Room room)
    else (if list_all (has_room_for room) buffers then None else Some (Crowded room))
