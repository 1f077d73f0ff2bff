-- The state of chips that are blank, and a copy of a state. Ours.
use Rattle.std.specs.Prelude.{◌≡◌, ℕ, IsTrue, [], length}
use Rattle.cm_model.specs.Chip.{blank_chip}
use Rattle.cm_model.specs.Array.{Chips}
use Rattle.cm_model.specs.Each.{tabulate}
use Rattle.cm_model.specs.Wiring.{plain_routing}
use Rattle.cm_router.specs.Routes.{routing_of}
use Rattle.cm_router.specs.declared.routing.Routing.{Routing}
use Rattle.cm_router_engine.specs.Standing.{InFlight}
use Rattle.cm_petit.specs.Routers.{events_of}
use Rattle.cm_array.specs.declared.chip_state.ChipState.{ChipState}

-- these chips and messages at a count of petit cycles, with working room for each chip, and without a log or an event
pub record IsStateOf (these : Chips) (cycles : ℕ) (messages : InFlight) (wires : Routing)
    (state : ChipState) : Type 0 where
  pub chips : state.run ≡ these
  pub logs : state.logs.items ≡ []
  pub row : state.row.items ≡ []
  pub clock : state.clock ≡ cycles
  pub sent : length state.sent.items ≡ length these
  pub incoming : length state.incoming.items ≡ length these
  pub crossing : state.crossing ≡ messages
  pub routing : state.routing ≡ wires

-- so many blank chips of a machine of n dimensions and room cap, after so many petit cycles
pub record IsBlankState (n cap count cycles : ℕ) (state : ChipState) : Type 0 where
  pub dims : state.shape.dims ≡ n
  pub room : state.shape.room ≡ cap
  pub chips : state.run ≡ tabulate 0 count (λ c. blank_chip)
  pub logs : events_of state.logs.items ≡ tabulate 0 count (λ c. [])
  pub row : state.row.items ≡ []
  pub clock : state.clock ≡ cycles
  pub sent : length state.sent.items ≡ count
  pub incoming : length state.incoming.items ≡ count
  pub buffers : state.crossing.buffers ≡ tabulate 0 count (λ c. [])
  pub gathered : IsTrue state.crossing.gathered
  pub cube : state.routing.cuts.dims ≡ n
  pub routing : routing_of state.routing ≡ plain_routing

-- the same chips, messages, events and counter, with working room for each chip
pub record IsCopy (old copy : ChipState) : Type 0 where
  pub shape : copy.shape ≡ old.shape
  pub chips : copy.run ≡ old.run
  pub logs : events_of copy.logs.items ≡ events_of old.logs.items
  pub row : copy.row.items ≡ old.row.items
  pub clock : copy.clock ≡ old.clock
  pub sent : length copy.sent.items ≡ length old.run
  pub incoming : length copy.incoming.items ≡ length old.run
  pub crossing : copy.crossing ≡ old.crossing
  pub routing : copy.routing ≡ old.routing
