-- How many messages of a load are delivered or stand: laws, each a clause of the contract of one function. Ours.
use Rattle.std.specs.Prelude.{◌≡◌, ℕ, ◌+◌, length}
use Rattle.cm_model.specs.Wiring.{Routing}
use Rattle.cm_model.specs.Deliveries.{standing_lines}
use Rattle.lab_load.specs.declared.offers.Load.{Load}
use Rattle.lab_load.specs.Loaded.{Loaded, unloaded, after_cycles, loaded_for}

-- how many messages stand in the routers of a cube of n dimensions
abbrev pub count_in_routers : ℕ → Loaded → ℕ
count_in_routers n loaded = length (standing_lines n loaded.machine)

-- how many were delivered: of each its latency was told
abbrev pub delivered_count : Loaded → ℕ
delivered_count loaded = length loaded.latencies

-- under every load each message that was taken in was delivered or stands in a router
abbrev pub TakenAreDeliveredOrStand : Type 0
TakenAreDeliveredOrStand = (cap : ℕ) (load : Load) (routing : Routing) (cycles : ℕ)
    → (loaded_for cap load routing 0 cycles).taken
    ≡ delivered_count (loaded_for cap load routing 0 cycles)
    + count_in_routers load.dims (loaded_for cap load routing 0 cycles)

-- where the first petit cycles are not told of, so is each message that stood behind them or was taken in since
abbrev pub StoodAreDeliveredOrStand : Type 0
StoodAreDeliveredOrStand = (cap : ℕ) (load : Load) (routing : Routing) (skip cycles : ℕ)
    → count_in_routers load.dims (after_cycles cap load (unloaded load.dims routing) skip)
    + (loaded_for cap load routing skip cycles).taken
    ≡ delivered_count (loaded_for cap load routing skip cycles)
    + count_in_routers load.dims (loaded_for cap load routing skip cycles)
