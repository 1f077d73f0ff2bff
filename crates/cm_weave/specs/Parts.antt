-- What a block has where it stands in the exchange of a run. Ours.
use Rattle.std.specs.Prelude.{ℕ, zero, suc, List, Option, Some, None, slice_get}
use Rattle.cm_model.specs.declared.act.Act.{Act}
use Rattle.cm_model.specs.Machine.{Machine}
use Rattle.cm_model.specs.Steps.{Phase}
use Rattle.cm_blocks.specs.Parts.{Part, block}
use Rattle.cm_blocks.specs.Parcels.{Parcel}
use Rattle.cm_blocks.specs.Rounds.{rounds, before_round, steps_between}
use Rattle.cm_blocks.specs.Steps.{part_after_all, less, absorbed}
use Rattle.cm_exchange.specs.declared.stand.Stand.{Stand}
use Rattle.cm_exchange.specs.declared.step.Step.{Step}
use Rattle.cm_exchange.specs.declared.step.Step.TheVariants.{Grip, File, Draw, Clear}

-- a part at a stage of a round: once it has filed, without what it sent
abbrev pub at_stage : ℕ → ℕ → Option Phase → Part → Part
at_stage cap zero one s = s
at_stage cap (suc zero) one s = s
at_stage cap (suc (suc stage)) None s = s
at_stage cap (suc (suc stage)) (Some phase) s = less cap phase.step s

-- block b where it stands
unfoldable pub part_at_stand : ℕ → ℕ → ℕ → Machine → List Act → ℕ → Stand → Part
part_at_stand n cap k machine acts b stand =
    at_stage cap stand.stage (slice_get (rounds n k acts) stand.round)
    (block n k b (before_round n cap k machine acts stand.round))

-- what a step of the exchange does to the part of its block, in round r
abbrev pub part_with : ℕ → ℕ → ℕ → List Act → Step → ℕ → Phase → Parcel → Part → Part
part_with n cap k acts (Grip b) r phase parcel s = s
part_with n cap k acts (File b) r phase parcel s = less cap phase.step s
part_with n cap k acts (Draw b) r phase parcel s = s
part_with n cap k acts (Clear b) r phase parcel s =
    part_after_all n cap (steps_between n k acts r) (absorbed n cap phase.step parcel s)
