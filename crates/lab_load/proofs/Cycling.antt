-- One petit cycle under a load, from what its parts leave.
use Rattle.std.proofs.Common.{◌≡◌, ℕ, ◌+◌, ◌^◌, List, [], ◌++◌, sym, ap, ◌∙◌}
use Rattle.cm_bits.specs.Bit.{bit}
use Rattle.cm_model.specs.declared.act.Act.TheVariants.{Cycle}
use Rattle.cm_model.specs.declared.message.Message.{Message}
use Rattle.cm_model.specs.declared.message.Event.{Event}
use Rattle.cm_model.specs.Each.{tabulate}
use Rattle.cm_model.specs.Processor.{RECV}
use Rattle.cm_model.specs.Array.{Chips, chip_at}
use Rattle.cm_model.specs.Wiring.{Routing}
use Rattle.cm_model.specs.Machine.{Machine}
use Rattle.cm_model.specs.Buffers.{after_act}
use Rattle.cm_element.specs.Wide.{with_flag_plane}
use Rattle.cm_router.specs.Logs.{Log}
use Rattle.cm_petit.specs.Routers.{machine_from_logs, events_of}
use Rattle.lab_load.specs.declared.offers.Load.{Load}
use Rattle.lab_load.specs.declared.sources.Source.{Source}
use Rattle.lab_load.specs.Offers.{places}
use Rattle.lab_load.specs.Asking.{Asking, asking_after_places}
use Rattle.lab_load.specs.Telling.{injected_count, latencies_in}
use Rattle.lab_load.specs.Counted.{asked_machine}
use Rattle.lab_load.specs.Loaded.{Loaded, all_ready, asking_of, machine_asked, load_after, cycled, after_one}

module _ (n cap : ℕ) (load : Load) (routing : Routing) (chips asked_chips left ready : Chips)
    (buffers crossed : List (List Message)) (logs emptied told : List Log) (t begun ended : ℕ)
    (sources next : List Source) (deepest deeper taken more : ℕ) (latencies all : List ℕ) where
  abbrev pub before : Loaded
  before = record {
    machine = machine_from_logs routing chips buffers logs t;
    sources = sources;
    deepest = deepest;
    taken = taken;
    latencies = latencies;
  }

  abbrev pub after : Loaded
  after = record {
    machine = machine_from_logs routing ready crossed told (t + 1);
    sources = next;
    deepest = deeper;
    taken = taken + more;
    latencies = all;
  }

  -- the machine with which the petit cycle begins
  pub asked : n ≡ load.dims
      → record { chips = asked_chips; sources = next; deepest = deeper }
      ≡ asking_after_places load t (record { chips = chips; sources = sources; deepest = deepest }) (places load.dims)
      → events_of emptied ≡ tabulate {X = List Event} 0 (2 ^ n) (λ c. []) → begun ≡ t
      → machine_from_logs routing asked_chips buffers emptied begun ≡ asked_machine load before
  asked dims asks empty starts = λ i. record {
    chips = (asks i).chips;
    buffers = buffers;
    logs = (empty ∙ ap (λ (k : ℕ). tabulate {X = List Event} 0 (2 ^ k) (λ c. [])) dims) i;
    clock = starts i;
    routing = routing;
  }

  pub one_cycle : n ≡ load.dims
      → record { chips = asked_chips; sources = next; deepest = deeper }
      ≡ asking_after_places load t (record { chips = chips; sources = sources; deepest = deepest }) (places load.dims)
      → events_of emptied ≡ tabulate {X = List Event} 0 (2 ^ n) (λ c. [])
      → machine_from_logs routing left crossed told ended
      ≡ after_act n cap (machine_from_logs routing asked_chips buffers emptied begun) Cycle
      → begun ≡ t → ended ≡ begun + 1 → more ≡ injected_count (events_of told)
      → all ≡ latencies ++ latencies_in t (events_of told)
      → ready ≡ tabulate 0 (2 ^ n) (λ c. with_flag_plane (chip_at left c) RECV (bit 0))
      → after ≡ after_one cap load before
  unfolding after_one all_ready
  one_cycle dims asks empty goes starts ends takes tells fetched =
      let asking : Asking = asking_of load before in
      let opening : machine_from_logs routing asked_chips buffers emptied begun
      ≡ machine_asked n (machine_from_logs routing chips buffers logs t) asking.chips =
      λ i. record {
        chips = (asks i).chips;
        buffers = buffers;
        logs = empty i;
        clock = starts i;
        routing = routing;
      } in
      let machine : machine_from_logs routing left crossed told ended
      ≡ after_act n cap (machine_asked n (machine_from_logs routing chips buffers logs t) asking.chips) Cycle =
      goes ∙ ap (λ (m : Machine). after_act n cap m Cycle) opening in
      let clock : t + 1 ≡ ended = sym (ends ∙ ap (λ (k : ℕ). k + 1) starts) in
      let told_so : after ≡ load_after n before asking (machine_from_logs routing left crossed told ended) =
      λ i. record {
        machine = record {
          chips = fetched i;
          buffers = crossed;
          logs = events_of told;
          clock = clock i;
          routing = routing;
        };
        sources = (asks i).sources;
        deepest = (asks i).deepest;
        taken = taken + takes i;
        latencies = tells i;
      } in
      told_so ∙ (ap (load_after n before asking) machine ∙ (λ i. cycled (dims i) cap before asking))
