-- What a machine under a load is kept as. Ours.
use Rattle.std.specs.Prelude.{◌≡◌, ℕ, List}
use Rattle.cm_model.specs.declared.message.Message.{Message}
use Rattle.cm_model.specs.Array.{Chips}
use Rattle.cm_model.specs.Wiring.{Routing}
use Rattle.cm_router.specs.Logs.{Log}
use Rattle.cm_petit.specs.Routers.{machine_from_logs}
use Rattle.lab_counts.specs.declared.counts.Counts.{Counts}
use Rattle.lab_load.specs.declared.cycles.Told.{Told}
use Rattle.lab_load.specs.declared.sources.Source.{Source}
use Rattle.lab_load.specs.Loaded.{Loaded}

-- chips, buffers and logs by number, at a count of petit cycles; what was offered by place, and what was told
abbrev pub loaded_of : Routing → Chips → List (List Message) → List Log → ℕ → List Source → Told → Loaded
loaded_of routing chips buffers logs clock sources told = record {
  machine = machine_from_logs routing chips buffers logs clock;
  sources = sources;
  deepest = told.deepest;
  taken = told.taken;
  latencies = told.latencies.items;
}

-- what was told is what stands there, and what was counted
pub record IsToldOf (loaded : Loaded) (counts : Counts) (told : Told) : Type 0 where
  pub deepest : told.deepest ≡ loaded.deepest
  pub taken : told.taken ≡ loaded.taken
  pub latencies : told.latencies.items ≡ loaded.latencies
  pub counts_are : told.counts ≡ counts
