-- The parts of a machine stay the parts of a machine.
use Rattle.std.proofs.Common.{◌≡◌, ℕ, ◌+◌, ◌^◌, ◌<◌, ◌≤◌, ◌↔◌, Bool, true, false, List, [], ◌∷◌, length, set, refl}
use Rattle.std.proofs.Common.{sym, ap}
use Rattle.std.proofs.Common.{◌∙◌, subst, arith, Result, Ok, Err, IsErr, OnOk, OnErr}
use Rattle.std.proofs.lemmas.List.{length-set, length-map}
use Rattle.std.proofs.Math.Nat.{pow-le-pow_right}
use Rattle.std.proofs.lemmas.List.Elements.{All-from_get_or}
use Rattle.std.specs.Prelude.{IsTrue}
use Rattle.std.specs.Global.{Vec}
use Rattle.std.specs.List.{list_any}
use Rattle.cm_model.specs.declared.act.Act.{Act}
use Rattle.cm_model.specs.declared.act.Act.TheVariants as act
use Rattle.cm_model.specs.declared.act.Nano.{Nano}
use Rattle.cm_model.specs.declared.message.Message.{Message}
use Rattle.cm_model.specs.declared.message.Event.{Event}
use Rattle.cm_model.specs.Processor.{Processor}
use Rattle.cm_model.specs.Whole.{IsChip}
use Rattle.cm_model.specs.Array.{Chips, chip_at, after_nano}
use Rattle.cm_model.specs.Each.{tabulate}
use Rattle.cm_model.specs.Chip.{blank_chip, with_flag}
use Rattle.cm_model.specs.Machine.{Machine, blank_machine, run_of}
use Rattle.cm_model.specs.Buffers.{after_act}
use Rattle.cm_model.specs.Account.{account, all_injected}
use Rattle.cm_model.specs.Keeping.{AreSizes, HasTagsOnce, IsMachine}
use Rattle.cm_model.proofs.Blanks.{IsMachine-blank_at}
use Rattle.cm_model.proofs.Keeping.{IsMachine-after_act, IsMachine-run_of}
use Rattle.cm_model.proofs.Runs.{run_of-nil, run_of-cons}
use Rattle.cm_router_engine.specs.Standing.{InFlight}
use Rattle.cm_router.specs.declared.routing.Routing.{Routing}
use Rattle.cm_router.specs.Routes.{routing_of}
use Rattle.cm_router.specs.Logs.{Log}
use Rattle.cm_router.specs.Rows.{with_row}
use Rattle.cm_router.proofs.Telling.{length-with_row, with_row-nil}
use Rattle.cm_petit.specs.Routers.{events_of, HaveBuffers}
use Rattle.cm_array.specs.declared.chip_state.ChipState.{ChipState}
use Rattle.cm_array.specs.Acts.{cycles_in, is_instruction}
use Rattle.cm_array.specs.Fresh.{IsBlankState, IsCopy}
use Rattle.cm_array.specs.Parts.{machine_of, AreSized, AreParts, AreUnderWay}
use Rattle.cm_array.proofs.Lists.{each_after_set}
use Rattle.cm_array.proofs.Rooms.{cycles_in-append}
use Rattle.cm_array.proofs.Searching.{AreOf}
use Rattle.cm_array.proofs.Wholes.{IsChip-with_flag}

-- a machine with other whole chips
pub IsMachine-with_chips : (n cap : ℕ) (machine : Machine) (chips : Chips) → length chips ≡ 2 ^ n
    → ((c : ℕ) → c < 2 ^ n → IsChip (chip_at chips c))
    → IsMachine n cap machine → IsMachine n cap (record machine { chips = chips })
unfolding account all_injected
IsMachine-with_chips n cap machine chips long whole h = record {
  chip_count = long;
  buffer_count = h.buffer_count;
  log_count = h.log_count;
  whole = whole;
  room = h.room;
  messages = h.messages;
  events = h.events;
  routing = h.routing;
  births = h.births;
  tags = h.tags;
  injected = h.injected;
}

-- the parts of a machine between two lists of acts are so between two acts
pub AreUnderWay-parts : (n cap : ℕ) (parts : ChipState) → AreParts n cap parts → AreUnderWay n cap parts
AreUnderWay-parts n cap parts h = record {
  sized = h.sized;
  machine = h.machine;
}

-- a fact of two sizes is one of two that are equal to them
pub at_sizes : (P : ℕ → ℕ → Type 0) (n cap d r : ℕ) → d ≡ n → r ≡ cap → P n cap → P d r
at_sizes P n cap d r dims room h =
    subst (λ (k : ℕ). P d k) (sym room) (subst (λ (k : ℕ). P k cap) (sym dims) h)

-- so parts are of the sizes of their own shape
pub AreParts-at_shape : (n cap : ℕ) (parts : ChipState) → AreParts n cap parts
    → AreParts parts.shape.dims parts.shape.room parts
AreParts-at_shape n cap parts h =
    at_sizes (λ d r. AreParts d r parts) n cap parts.shape.dims parts.shape.room h.sized.dims h.sized.room h

pub AreUnderWay-at_shape : (n cap : ℕ) (parts : ChipState) → AreUnderWay n cap parts
    → AreUnderWay parts.shape.dims parts.shape.room parts
AreUnderWay-at_shape n cap parts h =
    at_sizes (λ d r. AreUnderWay d r parts) n cap parts.shape.dims parts.shape.room h.sized.dims h.sized.room h

-- and once the messages are gathered they are the parts of a machine between two lists
pub machine_of-gathered : (parts : ChipState) (crossing : InFlight) → crossing.buffers ≡ parts.crossing.buffers
    → machine_of (record parts { crossing = crossing }) ≡ machine_of parts
machine_of-gathered parts crossing same =
    λ i. record {
      chips = parts.run;
      buffers = same i;
      logs = (machine_of parts).logs;
      clock = parts.clock;
      routing = routing_of parts.routing;
    }

pub AreParts-gathered : (n cap : ℕ) (parts : ChipState) (crossing : InFlight) → crossing.buffers ≡ parts.crossing.buffers
    → IsTrue crossing.gathered
    → AreUnderWay n cap parts → AreParts n cap (record parts { crossing = crossing })
AreParts-gathered n cap parts crossing same gathered h = record {
  sized = h.sized;
  gathered = gathered;
  machine = subst (λ (m : Machine). IsMachine n cap m) (sym (machine_of-gathered parts crossing same)) h.machine;
}

-- with more room in the row they are what they were
pub machine_of-with_row : (parts : ChipState) (row : Vec Event) → row.items ≡ parts.row.items
    → machine_of (record parts { row = row }) ≡ machine_of parts
machine_of-with_row parts row same =
    λ i. record {
      chips = parts.run;
      buffers = parts.crossing.buffers;
      logs = with_row (events_of parts.logs.items) (same i);
      clock = parts.clock;
      routing = routing_of parts.routing;
    }

pub AreParts-with_row : (n cap : ℕ) (parts : ChipState) (row : Vec Event) → row.items ≡ parts.row.items → AreParts n cap parts
    → AreParts n cap (record parts { row = row })
AreParts-with_row n cap parts row same h = record {
  sized = h.sized;
  gathered = h.gathered;
  machine = subst (λ (m : Machine). IsMachine n cap m) (sym (machine_of-with_row parts row same)) h.machine;
}

-- with the same shape, rows as long, another count, and wires of the same cube, they are sized still
pub AreSized-again : (n cap count : ℕ) (old new : ChipState) → AreSized n cap count old → new.shape ≡ old.shape
    → length new.sent.items ≡ length old.sent.items → length new.incoming.items ≡ length old.incoming.items
    → new.clock < 2 ^ 63 → new.routing.cuts.dims ≡ old.routing.cuts.dims → AreSized n cap count new
AreSized-again n cap count old new h shape sent incoming clock cube = record {
  sizes = h.sizes;
  dims = (λ i. (shape i).dims) ∙ h.dims;
  room = (λ i. (shape i).room) ∙ h.room;
  sent_count = sent ∙ h.sent_count;
  incoming_count = incoming ∙ h.incoming_count;
  clock = clock;
  cube = cube ∙ h.cube;
}

-- after an act the parts are the parts of a machine, if sizes are as before
pub AreUnderWay-after_act : (n cap : ℕ) (a : Act) (before after : ChipState) → AreUnderWay n cap before
    → machine_of after ≡ after_act n cap (machine_of before) a → after.shape ≡ before.shape
    → length after.sent.items ≡ length before.sent.items → length after.incoming.items ≡ length before.incoming.items
    → after.routing ≡ before.routing → after.clock < 2 ^ 63 → AreUnderWay n cap after
AreUnderWay-after_act n cap a before after h is shape same_sent same_incoming routing clock = record {
  sized = AreSized-again n cap (2 ^ n) before after h.sized shape same_sent same_incoming clock
      (ap (λ (r : Routing). r.cuts.dims) routing);
  machine = subst (λ (m : Machine). IsMachine n cap m) (sym is)
      (IsMachine-after_act n cap (machine_of before) a h.machine);
}

-- after an instruction
pub AreUnderWay-instructed : (n cap : ℕ) (nano : Nano) (before : ChipState) (run : Chips) (sent incoming : Vec ℕ)
    → AreUnderWay n cap before → run ≡ after_nano n nano before.run
    → length sent.items ≡ length before.sent.items → length incoming.items ≡ length before.incoming.items
    → AreUnderWay n cap (record before { run = run; sent = sent; incoming = incoming })
AreUnderWay-instructed n cap nano before run sent incoming h is same_sent same_incoming =
    AreUnderWay-after_act n cap (act.Nano nano) before
    (record before { run = run; sent = sent; incoming = incoming }) h
    (λ i. record (machine_of before) { chips = is i }) refl same_sent same_incoming refl h.sized.clock

-- where the counter alone is another after acts, they are the parts of a machine still
pub AreParts-counted : (n cap : ℕ) (acts : List Act) (parts : ChipState) (clock : ℕ) → AreParts n cap parts
    → machine_of (record parts { clock = clock }) ≡ run_of n cap (machine_of parts) acts → clock < 2 ^ 63
    → AreParts n cap (record parts { clock = clock })
AreParts-counted n cap acts parts clock h is few = record {
  sized = AreSized-again n cap (2 ^ n) parts (record parts { clock = clock }) h.sized refl refl refl few refl;
  gathered = h.gathered;
  machine = subst (λ (m : Machine). IsMachine n cap m) (sym is)
      (IsMachine-run_of n cap (machine_of parts) acts h.machine);
}

-- acts among which is no instruction, of a machine in which a petit cycle changes nothing but the counter
module _ (n cap : ℕ) (at : ℕ → Machine) (long : (k : ℕ) → length (at k).buffers ≡ 2 ^ n)
    (ticks : (k : ℕ) → at (k + 1) ≡ after_act n cap (at k) act.Cycle) where
  pub rested : (acts : List Act) (clock : ℕ) → list_any is_instruction acts ≡ false
      → at (clock + cycles_in acts) ≡ run_of n cap (at clock) acts
  rested [] clock none =
      let same : clock + cycles_in [] ≡ clock = omega arith in
      rw same (sym (run_of-nil n cap (at clock) (long clock)))
  rested (act.Nano nano ∷ acts) clock none = absurd cc
  rested (act.Sense ∷ acts) clock none =
      let same : clock + cycles_in (act.Sense ∷ acts) ≡ clock + cycles_in acts =
      omega (arith, cycles_in-append (act.Sense ∷ []) acts) in
      rw same (rested acts clock none ∙ sym (run_of-cons n cap (at clock) act.Sense acts (long clock)))
  rested (act.Cycle ∷ acts) clock none =
      let more : clock + cycles_in (act.Cycle ∷ acts) ≡ (clock + 1) + cycles_in acts =
      omega (arith, cycles_in-append (act.Cycle ∷ []) acts) in
      rw more (rested acts (clock + 1) none ∙ ap (λ (m : Machine). run_of n cap m acts) (ticks clock)
      ∙ sym (run_of-cons n cap (at clock) act.Cycle acts (long clock)))

-- acts among which is neither an instruction nor a petit cycle change nothing
pub looked : (n cap : ℕ) (machine : Machine) (acts : List Act) → length machine.buffers ≡ 2 ^ n
    → list_any is_instruction acts ≡ false → cycles_in acts ≡ 0 → run_of n cap machine acts ≡ machine
looked n cap machine [] long none still = run_of-nil n cap machine long
looked n cap machine (act.Nano nano ∷ acts) long none still = absurd cc
looked n cap machine (act.Sense ∷ acts) long none still =
    run_of-cons n cap machine act.Sense acts long
    ∙ looked n cap machine acts long none (omega (arith, still, cycles_in-append (act.Sense ∷ []) acts))
looked n cap machine (act.Cycle ∷ acts) long none still =
    absurd (omega (arith, still, cycles_in-append (act.Cycle ∷ []) acts))

-- one log for each chip
pub length-logs : (n cap : ℕ) (parts : ChipState) → AreUnderWay n cap parts → length parts.logs.items ≡ 2 ^ n
length-logs n cap parts h =
    sym (length-map parts.logs.items (λ (log : Log). log.items))
    ∙ sym (length-with_row (events_of parts.logs.items) parts.row.items) ∙ h.machine.log_count

pub length-events : (n cap : ℕ) (parts : ChipState) → AreUnderWay n cap parts → length (events_of parts.logs.items) ≡ 2 ^ n
length-events n cap parts h = length-map parts.logs.items (λ (log : Log). log.items) ∙ length-logs n cap parts h

-- and the buffers of a cube
pub HaveBuffers-parts : (n cap : ℕ) (parts : ChipState) → AreUnderWay n cap parts
    → HaveBuffers (2 ^ n) cap parts.run parts.crossing.buffers
HaveBuffers-parts n cap parts h = record {
  chip_count = h.machine.chip_count;
  buffer_count = h.machine.buffer_count;
  within = All-from_get_or (λ (ms : List Message). length ms ≤ cap) parts.crossing.buffers []
      (λ c l. h.machine.room c (omega (arith, h.machine.buffer_count)));
}

-- with another whole chip in its place it is still a machine
IsMachine-with_chip : (n cap : ℕ) (machine : Machine) (i : ℕ) (chip : List Processor) → IsChip chip
    → IsMachine n cap machine
    → IsMachine n cap (record machine { chips = set machine.chips i chip })
IsMachine-with_chip n cap machine i chip whole h =
    IsMachine-with_chips n cap machine (set machine.chips i chip) (length-set machine.chips i chip ∙ h.chip_count)
    (each_after_set (λ (c : List Processor). IsChip c) machine.chips [] i chip (2 ^ n) h.chip_count h.whole whole) h

-- at most 4,096
pub few_chips : (n : ℕ) → n ≤ 12 → 2 ^ n ≤ 4096
few_chips n small = let most : 2 ^ n ≤ 2 ^ 12 = pow-le-pow_right (omega arith) small in omega (arith, most)

-- its messages and logs, as they were read, are those of the machine
pub AreOf-parts : (n cap : ℕ) (parts : ChipState) (machine : Machine) → AreParts n cap parts → machine_of parts ≡ machine
    → AreOf n machine parts.crossing.buffers parts.logs.items parts.row.items
AreOf-parts n cap parts machine h view = record {
  buffers = ap (λ (m : Machine). m.buffers) view;
  events = ap (λ (m : Machine). m.logs) view;
  buffer_count = h.machine.buffer_count;
  log_count = length-logs n cap parts (AreUnderWay-parts n cap parts h);
  once = subst (λ (m : Machine). HasTagsOnce n m) view h.machine.tags;
}

-- ---- blank parts

-- blank parts are the blank machine, at whatever count of petit cycles
pub machine_of-blank : (n cap count clock : ℕ) (parts : ChipState) → count ≡ 2 ^ n → IsBlankState n cap count clock parts
    → machine_of parts ≡ record (blank_machine n) { clock = clock }
unfolding blank_machine
machine_of-blank n cap count clock parts all is =
    let all_chips : parts.run ≡ tabulate 0 (2 ^ n) (λ c. blank_chip) = is.chips
    ∙ ap (λ (k : ℕ). tabulate 0 k (λ c. blank_chip)) all in
    let all_buffers : parts.crossing.buffers ≡ tabulate 0 (2 ^ n) (λ c. []) = is.buffers
    ∙ ap (λ (k : ℕ). tabulate 0 k (λ c. [])) all in
    let events : List (List Event) = events_of parts.logs.items in
    let all_logs : with_row events parts.row.items ≡ tabulate 0 (2 ^ n) (λ c. []) =
    ap (with_row events) is.row ∙ with_row-nil events ∙ is.logs
    ∙ ap (λ (k : ℕ). tabulate 0 k (λ c. [])) all in
    λ i. record {
      chips = all_chips i;
      buffers = all_buffers i;
      logs = all_logs i;
      clock = is.clock i;
      routing = is.routing i;
    }

-- they are the parts of a machine
pub AreParts-blank : (n cap count clock : ℕ) (parts : ChipState) → AreSizes n cap → count ≡ 2 ^ n → clock < 2 ^ 63
    → IsBlankState n cap count clock parts → AreParts n cap parts
AreParts-blank n cap count clock parts sizes all few is = record {
  sized = record {
    sizes = sizes;
    dims = is.dims;
    room = is.room;
    sent_count = is.sent ∙ all;
    incoming_count = is.incoming ∙ all;
    clock = omega (arith, is.clock, few);
    cube = is.cube;
  };
  gathered = is.gathered;
  machine = subst (λ (m : Machine). IsMachine n cap m) (sym (machine_of-blank n cap count clock parts all is))
      (IsMachine-blank_at n cap clock);
}

-- the blank machine counts from 0
pub blank_machine-from_zero : (n : ℕ) → record (blank_machine n) { clock = 0 } ≡ blank_machine n
unfolding blank_machine
blank_machine-from_zero n = refl

-- with another whole chip in its place they are still the parts of a machine
pub AreParts-with_chip : (n cap : ℕ) (parts : ChipState) (run : Chips) (i : ℕ) (chip : List Processor) → IsChip chip
    → run ≡ set parts.run i chip → AreParts n cap parts → AreParts n cap (record parts { run = run })
AreParts-with_chip n cap parts run i chip whole is h = record {
  sized = h.sized;
  gathered = h.gathered;
  machine = subst (λ (chips : Chips). IsMachine n cap (record (machine_of parts) { chips = chips })) (sym is)
      (IsMachine-with_chip n cap (machine_of parts) i chip whole h.machine);
}

-- with a flag put, or not
pub AreParts-poked_flag : {X Y : Type 0} (result : Result X Y) (n cap : ℕ) (parts : ChipState) (run : Chips)
    (i p number : ℕ) (b : Bool) → i < 2 ^ n → (IsErr result ↔ (number ≡ 8))
    → OnOk result (run ≡ set parts.run i (with_flag (chip_at parts.run i) p number b))
    → OnErr result (run ≡ parts.run) → AreParts n cap parts → AreParts n cap (record parts { run = run })
AreParts-poked_flag (Ok x) n cap parts run i p number b below refused ok err h =
    AreParts-with_chip n cap parts run i (with_flag (chip_at parts.run i) p number b)
    (IsChip-with_flag (chip_at parts.run i) p number b (λ e. let wrong : false ≡ true = refused.1 e in cc)
    (h.machine.whole i below)) ok h
AreParts-poked_flag (Err y) n cap parts run i p number b below refused ok err h =
    subst (λ (chips : Chips). AreParts n cap (record parts { run = chips })) (sym err) h

-- a copy of the parts of a machine, with working room of its own, are the parts of a machine
pub machine_of-copied : (parts copy : ChipState) → IsCopy parts copy → machine_of copy ≡ machine_of parts
machine_of-copied parts copy is = λ i. record {
  chips = is.chips i;
  buffers = (is.crossing i).buffers;
  logs = with_row (is.logs i) (is.row i);
  clock = is.clock i;
  routing = routing_of (is.routing i);
}

pub AreParts-copied : (n cap : ℕ) (parts copy : ChipState) → AreParts n cap parts → IsCopy parts copy → AreParts n cap copy
AreParts-copied n cap parts copy h is = record {
  sized = record {
    sizes = h.sized.sizes;
    dims = (λ i. (is.shape i).dims) ∙ h.sized.dims;
    room = (λ i. (is.shape i).room) ∙ h.sized.room;
    sent_count = is.sent ∙ h.machine.chip_count;
    incoming_count = is.incoming ∙ h.machine.chip_count;
    clock = omega (arith, is.clock, h.sized.clock);
    cube = ap (λ (r : Routing). r.cuts.dims) is.routing ∙ h.sized.cube;
  };
  gathered = subst (λ (u : InFlight). IsTrue u.gathered) (sym is.crossing) h.gathered;
  machine = subst (λ (m : Machine). IsMachine n cap m) (sym (machine_of-copied parts copy is)) h.machine;
}
