-- How many acts of a program are done while a route is told. Ours.
use Rattle.std.specs.Prelude.{ℕ, suc, Bool, false, List, [], ◌∷◌, nat_lt, if◌then◌else◌}
use Rattle.std.specs.Option.{is_some}
use Rattle.cm_model.specs.declared.act.Act.{Act}
use Rattle.cm_model.specs.declared.act.Act.TheVariants.{Nano, Sense, Cycle}
use Rattle.cm_model.specs.declared.message.Tag.{Tag}
use Rattle.cm_model.specs.Machine.{Machine, run_of}
use Rattle.lab_study.specs.Counts.{log_lengths}
use Rattle.lab_route.specs.declared.routes.Excerpt.{Excerpt}
use Rattle.lab_route.specs.Whereabouts.{delivery_in}

-- an act that led from one machine to another delivered the message of a tag
abbrev pub act_delivers : ℕ → Tag → Act → Machine → Machine → Bool
act_delivers n tag Cycle before after = is_some (delivery_in n tag (log_lengths n before) after)
act_delivers n tag Sense before after = false
act_delivers n tag (Nano nano) before after = false

-- so many of these acts are done: those up to the last petit cycle that is told, or up to the one that delivers the
-- message
unfoldable pub acts_followed : ℕ → ℕ → Excerpt → Tag → Machine → List Act → ℕ
acts_followed n cap excerpt tag machine [] = 0
acts_followed n cap excerpt tag machine (act ∷ acts) =
    if nat_lt excerpt.to machine.clock then 0
    else if act_delivers n tag act machine (run_of n cap machine (act ∷ [])) then 1
    else suc (acts_followed n cap excerpt tag (run_of n cap machine (act ∷ [])) acts)
