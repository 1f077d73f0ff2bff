-- A blank machine to which nothing was offered, from its parts.
use Rattle.std.proofs.Common.{◌≡◌, ℕ, ◌-◌, ◌^◌, ◌≤◌, List, [], length, replicate, sym, ap, ◌∙◌, subst, arith}
use Rattle.std.specs.List.{All}
use Rattle.std.proofs.lemmas.List.{length-map}
use Rattle.cm_model.specs.declared.message.Message.{Message}
use Rattle.cm_model.specs.declared.message.Event.{Event}
use Rattle.cm_model.specs.Each.{tabulate}
use Rattle.cm_model.specs.Chip.{blank_chip}
use Rattle.cm_model.specs.Array.{Chips}
use Rattle.cm_model.specs.Wiring.{Routing}
use Rattle.cm_model.specs.Machine.{blank_machine}
use Rattle.cm_model.proofs.Each.{length-tabulate, get_or-each_below}
use Rattle.cm_router.specs.Logs.{Log}
use Rattle.cm_petit.specs.Routers.{machine_from_logs, events_of, AreRouters}
use Rattle.lab_load.specs.declared.sources.Source.{Source}
use Rattle.lab_load.specs.Offers.{places}
use Rattle.lab_load.specs.Asking.{no_source}
use Rattle.lab_load.specs.declared.offers.Load.{Load}
use Rattle.lab_load.specs.Loaded.{Loaded, unloaded, after_cycles, untold}

-- nothing was told, where what was told is nothing
pub nothing_told : (was : Loaded) (deepest taken : ℕ) (latencies : List ℕ) → deepest ≡ 0 → taken ≡ 0 → latencies ≡ []
    → record was { deepest = deepest; taken = taken; latencies = latencies } ≡ untold was
nothing_told was deepest taken latencies d t l =
    λ i. record was { deepest = d i; taken = t i; latencies = l i }

-- a machine that goes on, and of which what was told is left out, and that goes on
pub passed : (cap : ℕ) (load : Load) (skip cycles : ℕ) (blank begun first anew last : Loaded)
    → begun ≡ blank → first ≡ after_cycles cap load begun (skip - 0) → anew ≡ untold first
    → last ≡ after_cycles cap load anew (cycles - skip)
    → last ≡ after_cycles cap load (untold (after_cycles cap load blank skip)) (cycles - skip)
passed cap load skip cycles blank begun first anew last begins goes forgets ends =
    let all : skip - 0 ≡ skip = omega arith in
    ends
    ∙ ap (λ (l : Loaded). after_cycles cap load l (cycles - skip))
    (forgets ∙ ap untold (goes ∙ (λ i. after_cycles cap load (begins i) (all i))))

module _ (n count : ℕ) (run : Chips) (buffers : List (List Message)) (logs : List Log) (all : count ≡ 2 ^ n)
    (chips : run ≡ tabulate 0 count (λ c. blank_chip)) (none : buffers ≡ tabulate 0 count (λ c. []))
    (empty : events_of logs ≡ tabulate {X = List Event} 0 count (λ c. [])) where
  pub begins : (routing : Routing) (sources : List Source) (place_count : ℕ) (latencies : List ℕ)
      → sources ≡ replicate place_count no_source → place_count ≡ places n → latencies ≡ []
      → record {
        machine = machine_from_logs routing run buffers logs 0;
        sources = sources;
        deepest = 0;
        taken = 0;
        latencies = latencies;
      } ≡ unloaded n routing
  unfolding unloaded blank_machine
  begins routing sources place_count latencies offered count_is told = λ i. record {
    machine = record {
      chips = (chips ∙ ap (λ (k : ℕ). tabulate 0 k (λ c. blank_chip)) all) i;
      buffers = (none ∙ ap (λ (k : ℕ). tabulate {X = List Message} 0 k (λ c. [])) all) i;
      logs = (empty ∙ ap (λ (k : ℕ). tabulate {X = List Event} 0 k (λ c. [])) all) i;
      clock = 0;
      routing = routing;
    };
    sources = (offered ∙ ap (λ (k : ℕ). replicate k no_source) count_is) i;
    deepest = 0;
    taken = 0;
    latencies = told i;
  }

  pub routers : (cap : ℕ) → AreRouters (2 ^ n) cap run buffers logs
  routers cap = record {
    chip_count = ap length chips ∙ (length-tabulate 0 count (λ c. blank_chip) ∙ all);
    buffer_count = ap length none ∙ (length-tabulate {X = List Message} 0 count (λ c. []) ∙ all);
    log_count = sym (length-map logs (λ (log : Log). log.items))
        ∙ (ap length empty ∙ (length-tabulate {X = List Event} 0 count (λ c. []) ∙ all));
    within = subst (λ (xs : List (List Message)). All (λ ms. length ms ≤ cap) xs) (sym none)
        (λ k d h. omega (
          arith,
          ap length (get_or-each_below {X = List Message} count (λ c. []) k d
              (omega (arith, h, length-tabulate {X = List Message} 0 count (λ c. [])))),
        ));
  }
