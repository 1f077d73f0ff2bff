-- Parts that are cut out of a machine.
use Rattle.std.proofs.Common.{◌≡◌, ℕ, ◌+◌, ◌-◌, ◌^◌, ◌<◌, ◌≤◌, List, [], length, get_or, take, drop, map, sym}
use Rattle.std.proofs.Common.{ap, ◌∙◌, subst, arith}
use Rattle.std.proofs.lemmas.List.{length-map, take-map, drop-map}
use Rattle.std.proofs.lemmas.List.Elements.{All-from_get_or}
use Rattle.std.specs.List.{All, slice_range}
use Rattle.cm_model.specs.declared.message.Message.{Message}
use Rattle.cm_model.specs.declared.message.Event.{Event}
use Rattle.cm_model.specs.Processor.{Processor}
use Rattle.cm_model.specs.Chip.{blank_chip}
use Rattle.cm_model.proofs.Each.{length-tabulate}
use Rattle.cm_blocks.specs.Parts.{sliced, part}
use Rattle.cm_blocks.proofs.Cutting.{length-sliced, read-cut_at}
use Rattle.cm_router.specs.Routes.{routing_of}
use Rattle.cm_router.specs.Logs.{Log}
use Rattle.cm_petit.specs.Routers.{events_of, part_from_logs}
use Rattle.cm_array.specs.declared.chip_state.ChipState.{ChipState}
use Rattle.cm_array.specs.Parts.{machine_of, AreParts}
use Rattle.cm_array.specs.Cuts.{IsCut, IsPart, IsPartView, IsRoomFor}
use Rattle.cm_array.specs.Fresh.{IsBlankState}
use Rattle.cm_array.proofs.Machines.{at_sizes, few_chips}

-- no chip of a machine has more messages than any router has room for, and no machine has more chips than this
pub within_fifteen : (n cap : ℕ) (parts : ChipState) → AreParts n cap parts
    → All (λ ms. length ms ≤ 15) parts.crossing.buffers
within_fifteen n cap parts h =
    All-from_get_or (λ (ms : List Message). length ms ≤ 15) parts.crossing.buffers []
    (λ c l. omega (arith, h.machine.room c (omega (arith, h.machine.buffer_count, l)), h.sized.sizes.most_room))

pub few_buffers : (n cap : ℕ) (parts : ChipState) → AreParts n cap parts → length parts.crossing.buffers ≤ 4096
few_buffers n cap parts h = omega (arith, h.machine.buffer_count, few_chips n h.sized.sizes.dimension)

-- the events of some of the logs
pub events_of-sliced : (first count : ℕ) (logs : List Log)
    → events_of (slice_range logs first (first + count)) ≡ sliced first count (events_of logs)
unfolding sliced
events_of-sliced first count logs =
    let read : Log → List Event = λ log. log.items in
    ap (λ (k : ℕ). map read (take k (drop first logs))) (let e : first + count - first ≡ count = omega arith in e)
    ∙ sym (ap (take count) (drop-map read first logs) ∙ take-map read count (drop first logs))

-- blank chips are room for others
pub IsRoomFor-blank : (n cap count clock : ℕ) (state : ChipState) → IsBlankState n cap count clock state → IsRoomFor n cap count state
IsRoomFor-blank n cap count clock state is = record {
  dims = is.dims;
  room = is.room;
  chips = ap length is.chips ∙ length-tabulate 0 count blank;
  logs = sym (length-map state.logs.items (λ (log : Log). log.items))
      ∙ ap (λ (logs : List (List Event)). length logs) is.logs ∙ length-tabulate 0 count no_events;
  sent = is.sent;
  incoming = is.incoming;
  buffers = ap (λ (buffers : List (List Message)). length buffers) is.buffers ∙ length-tabulate 0 count no_messages;
  cube = is.cube;
} where
  blank : ℕ → List Processor
  blank c = blank_chip

  no_events : ℕ → List Event
  no_events c = []

  no_messages : ℕ → List Message
  no_messages c = []

-- logs with the same events may stand in the place of those of a cut
pub IsCut-with_logs : (first count : ℕ) (whole cut state : ChipState) → IsCut first count whole cut
    → state ≡ record cut { logs = state.logs } → events_of state.logs.items ≡ events_of cut.logs.items
    → IsCut first count whole state
IsCut-with_logs first count whole cut state is same events =
    subst (λ (s : ChipState). IsCut first count whole s) (sym same) (record {
      dims = is.dims;
      room = is.room;
      chips = is.chips;
      buffers = is.buffers;
      gathered = is.gathered;
      logs = events ∙ is.logs;
      sent = is.sent;
      incoming = is.incoming;
      clock = is.clock;
      cube = is.cube;
      routing = is.routing;
    })

module _ (n cap first count : ℕ) (old new : ChipState) (were : AreParts n cap old) (there : first + count ≤ 2 ^ n)
    (are : IsCut first count old new) where
  length-run_cut : length new.run ≡ count
  length-run_cut = ap length are.chips ∙ length-sliced first count old.run (omega (arith, there, were.machine.chip_count))

  length-buffers_cut : length new.crossing.buffers ≡ count
  length-buffers_cut =
      ap length are.buffers
      ∙ length-sliced first count old.crossing.buffers (omega (arith, there, were.machine.buffer_count))

  length-logs_cut : length new.logs.items ≡ count
  length-logs_cut =
      sym (length-map new.logs.items (λ (log : Log). log.items))
      ∙ ap (λ (logs : List (List Event)). length logs) are.logs
      ∙ length-sliced first count (machine_of old).logs (omega (arith, there, were.machine.log_count))

  within_cut : All (λ ms. length ms ≤ cap) new.crossing.buffers
  within_cut =
      All-from_get_or (λ (ms : List Message). length ms ≤ cap) new.crossing.buffers []
      (λ c l. let below : c < count = omega (arith, l, length-buffers_cut) in
      let is = ap (λ (lists : List (List Message)). length (get_or lists c [])) are.buffers
      ∙ ap length (read-cut_at first count old.crossing.buffers c [] below) in
      omega (arith, is, were.machine.room (first + c) (omega (arith, there, below))))

  -- so it is the part of the machine
  IsPartView-cut : IsPartView n cap first new
  IsPartView-cut = record {
    sized = record {
      sizes = were.sized.sizes;
      dims = are.dims ∙ were.sized.dims;
      room = are.room ∙ were.sized.room;
      sent_count = are.sent ∙ sym length-run_cut;
      incoming_count = are.incoming ∙ sym length-run_cut;
      clock = omega (arith, are.clock, were.sized.clock);
      cube = are.cube ∙ were.sized.dims;
    };
    there = omega (arith, there, length-run_cut);
    buffer_count = length-buffers_cut ∙ sym length-run_cut;
    log_count = length-logs_cut ∙ sym length-run_cut;
    within = within_cut;
  }

  pub IsPart-cut : IsPart first new
  IsPart-cut =
      at_sizes (λ d r. IsPartView d r first new) n cap new.shape.dims new.shape.room (are.dims ∙ were.sized.dims)
      (are.room ∙ were.sized.room) IsPartView-cut

  pub part_of-cut : part_from_logs (routing_of new.routing) first (length new.run) new.run new.crossing.buffers
      new.logs.items new.clock ≡ part first count (machine_of old)
  unfolding part
  part_of-cut = λ i. record {
    first = first;
    count = length-run_cut i;
    chips = are.chips i;
    buffers = are.buffers i;
    logs = are.logs i;
    clock = are.clock i;
    routing = are.routing i;
  }
