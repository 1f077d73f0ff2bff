-- Laws over the definitions, each the contract of a function of its name. Ours.
use Rattle.std.specs.Prelude.{◌≡◌, ℕ, ◌*◌, ◌/◌, ◌^◌, ◌<◌, ◌≤◌, List, ◌++◌, length, take}
use Rattle.cm_bits.specs.declared.place.Place.{Place}
use Rattle.cm_bits.specs.declared.plane.Dir.{Dir}
use Rattle.cm_model.specs.declared.act.Act.{Act}
use Rattle.cm_model.specs.Place.{neighbour, opposite}
use Rattle.cm_model.specs.declared.message.Tag.{Tag}
use Rattle.cm_model.specs.Steps.{all_steps}
use Rattle.cm_model.specs.Array.{nth_or_nil}
use Rattle.cm_model.specs.Wiring.{Routing, is_cut, IsRouting}
use Rattle.cm_model.specs.Machine.{Machine, blank_machine, machine_at, run_of}
use Rattle.cm_model.specs.Buffers.{after_steps, after_act, after_acts}
use Rattle.cm_model.specs.Account.{account, new_events, newly_injected, all_injected, SameLines, HasLines}
use Rattle.cm_model.specs.Found.{found_in, IsWhereabouts}
use Rattle.cm_model.specs.Keeping.{HasRoom, HasGoodTags, IsMachine}

-- a place of a cube of n dimensions
pub record IsPlace (n : ℕ) (place : Place) : Type 0 where
  pub chip : place.chip < 2 ^ n
  pub proc : place.proc < 16

-- a step stays on the machine, and one back from there ends where it began
pub record LeadsBack (n : ℕ) (dir : Dir) (place : Place) : Type 0 where
  pub within : IsPlace n (neighbour n dir place)
  pub back : neighbour n (opposite dir) (neighbour n dir place) ≡ place

-- so it is at every place, in every direction, for every cube
abbrev pub NeighboursLeadBack : Type 0
NeighboursLeadBack = (n : ℕ) (dir : Dir) (place : Place) → IsPlace n place → LeadsBack n dir place

-- a machine has at most as many cut wires as its cube has wires: two ends each, one at every chip in every dimension
abbrev pub CutsAreFew : Type 0
CutsAreFew = (n : ℕ) (routing : Routing) → IsRouting n routing → length routing.cuts ≤ n * 2 ^ n / 2

-- which wires of its cube a routing cuts, and its rule, tell it
abbrev pub RoutingsAreToldByWires : Type 0
RoutingsAreToldByWires = (n : ℕ) (left right : Routing) → IsRouting n left → IsRouting n right
    → left.rule ≡ right.rule → ((c d : ℕ) → c < 2 ^ n → d < n → is_cut left c d ≡ is_cut right c d) → left ≡ right

-- a run cut in two gives the same machine, with its buffers and logs
abbrev pub RunsCanBeCut : Type 0
RunsCanBeCut = (n cap : ℕ) (machine : Machine) (acts more : List Act) →
    run_of n cap machine (acts ++ more) ≡ run_of n cap (run_of n cap machine acts) more

-- a run, told on the set of messages, is the fold of its acts told by the buffers alone
abbrev pub RunsAreToldByBuffers : Type 0
RunsAreToldByBuffers = (n cap : ℕ) (machine : Machine) (acts : List Act) → length machine.buffers ≡ 2 ^ n →
    run_of n cap machine acts ≡ after_acts n cap machine acts

-- so are they after any number of their steps, in the midst of a petit cycle
abbrev pub StepsAreToldByBuffers : Type 0
StepsAreToldByBuffers = (n cap : ℕ) (machine : Machine) (acts : List Act) (count : ℕ) → length machine.buffers ≡ 2 ^ n →
    machine_at n cap machine acts count ≡ after_steps n cap machine (take count (all_steps n acts))

-- where no buffer has more than cap messages, no chip has more at any step of a run, told on the set of messages
abbrev pub RunsKeepRoom : Type 0
RunsKeepRoom = (n cap : ℕ) (machine : Machine) (acts : List Act) (count : ℕ) → length machine.buffers ≡ 2 ^ n
    → HasRoom n cap machine →
    HasRoom n cap (machine_at n cap machine acts count)

-- each chip's log after a run is its log before it, and the new events
abbrev pub LogsOnlyGrow : Type 0
LogsOnlyGrow = (n cap : ℕ) (machine : Machine) (acts : List Act) (c : ℕ) → c < 2 ^ n →
    nth_or_nil (run_of n cap machine acts).logs c ≡ nth_or_nil machine.logs c ++ new_events machine
    (run_of n cap machine acts) c

-- the account after a run is the account before it, and the lines of what was injected
abbrev pub AccountIsConserved : Type 0
AccountIsConserved = (n cap : ℕ) (machine : Machine) (acts : List Act) →
    SameLines (account n (run_of n cap machine acts))
    (account n machine ++ newly_injected n machine (run_of n cap machine acts))

-- where the account has the line of each message that was injected, it has it after a run too
abbrev pub InjectedStandInTheAccount : Type 0
InjectedStandInTheAccount = (n cap : ℕ) (machine : Machine) (acts : List Act) →
    HasLines (all_injected n machine) (account n machine)
    → HasLines (all_injected n (run_of n cap machine acts)) (account n (run_of n cap machine acts))

-- where the message of a tag is found, there it is
abbrev pub MessagesAreFound : Type 0
MessagesAreFound = (n : ℕ) (machine : Machine) (tag : Tag) → IsWhereabouts n machine tag (found_in n machine tag)

-- where no tag stands twice in the account and all births are below the counter, both hold after a run
abbrev pub TagsStayApart : Type 0
TagsStayApart = (n cap : ℕ) (machine : Machine) (acts : List Act) → HasGoodTags n machine
    → HasGoodTags n (run_of n cap machine acts)

-- each act keeps what every machine keeps
abbrev pub MachinesAreKept : Type 0
MachinesAreKept = (n cap : ℕ) (machine : Machine) (act : Act) → IsMachine n cap machine
    → IsMachine n cap (after_act n cap machine act)

-- and so does a run
abbrev pub RunsKeepMachines : Type 0
RunsKeepMachines = (n cap : ℕ) (machine : Machine) (acts : List Act) → IsMachine n cap machine
    → IsMachine n cap (run_of n cap machine acts)

-- the blank machine is one
abbrev pub BlankIsMachine : Type 0
BlankIsMachine = (n cap : ℕ) → IsMachine n cap (blank_machine n)
