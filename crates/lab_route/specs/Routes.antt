-- The route of one message while a program runs, petit cycle by petit cycle. Ours.
use Rattle.std.specs.Prelude.{◌≡◌, ℕ, ◌-◌, ◌^◌, Bool, Option, Some, None, Result, Ok, Err, List, [], ◌∷◌, ◌++◌, nat_lt, nat_le}
use Rattle.std.specs.Prelude.{if◌then◌else◌}
use Rattle.cm_bits.specs.declared.place.Place.{Place}
use Rattle.cm_model.specs.declared.act.Act.{Act}
use Rattle.cm_model.specs.declared.act.Act.TheVariants.{Nano, Sense, Cycle}
use Rattle.cm_model.specs.declared.message.Tag.{Tag}
use Rattle.cm_model.specs.Machine.{Machine, run_of}
use Rattle.lab_route.specs.declared.routes.Excerpt.{Excerpt}
use Rattle.lab_route.specs.declared.routes.RouteFault.{RouteFault}
use Rattle.lab_route.specs.declared.routes.RouteFault.TheVariants.{Chip, Clock, Late, Unsent}
use Rattle.lab_route.specs.declared.waits.Wait.{Wait}
use Rattle.lab_route.specs.declared.whereabouts.Stand.{Stand}
use Rattle.lab_study.specs.Counts.{log_lengths}
use Rattle.lab_route.specs.RouteLines.{stand_line, delivery_line, undelivered_line}
use Rattle.lab_study.specs.Study.{act_lacks_room}
use Rattle.lab_route.specs.Waits.{waits_in}
use Rattle.lab_route.specs.Whereabouts.{stand_in, delivery_in}

-- bytes, and what comes behind them
abbrev pub route_preceded_by : List ℕ → Result (List ℕ) RouteFault → Result (List ℕ) RouteFault
route_preceded_by first (Ok rest) = Ok (first ++ rest)
route_preceded_by first (Err fault) = Err fault

-- the chip from which a petit cycle led a message: where it stood before, or else the one that took it in
abbrev pub origin : Tag → Option Stand → ℕ
origin tag (Some stand) = stand.chip
origin tag None = tag.chip

-- a line of a petit cycle at this count, which is left out where it comes before the first that is told
abbrev pub excerpt_line : Excerpt → ℕ → List ℕ → List ℕ
excerpt_line excerpt clock line = if nat_lt clock excerpt.from then [] else line

-- what a petit cycle at this count tells, which led a message from a chip to where it was delivered, or else to where
-- it stands, and in which it waited so; and what comes then. Where it was delivered its route ends
abbrev pub route_text_then : ℕ → Excerpt → ℕ → ℕ → Option Place → Option Stand → List Wait
    → Result (List ℕ) RouteFault → Result (List ℕ) RouteFault
route_text_then n excerpt clock from (Some place) stand waits rest = Ok (delivery_line n clock from place)
route_text_then n excerpt clock from None (Some stand) waits rest =
    route_preceded_by (excerpt_line excerpt clock (stand_line n clock from stand waits)) rest
route_text_then n excerpt clock from None None waits rest = rest

-- why it waits in a petit cycle that begins with this machine, if that is told
abbrev pub waits_told : ℕ → ℕ → Excerpt → Tag → Machine → List Wait
waits_told n cap excerpt tag machine = if excerpt.waits then waits_in n cap tag machine else []

-- the same of a petit cycle that led from one machine to another
abbrev pub cycle_then : ℕ → ℕ → Excerpt → Tag → Machine → Machine → Result (List ℕ) RouteFault
    → Result (List ℕ) RouteFault
cycle_then n cap excerpt tag before after rest =
    route_text_then n excerpt before.clock (origin tag (stand_in n tag before))
    (delivery_in n tag (log_lengths n before) after) (stand_in n tag after) (waits_told n cap excerpt tag before) rest

-- the same of an act: in others no message moves
abbrev pub act_then : ℕ → ℕ → Excerpt → Tag → Act → Machine → Machine → Result (List ℕ) RouteFault
    → Result (List ℕ) RouteFault
act_then n cap excerpt tag Cycle before after rest = cycle_then n cap excerpt tag before after rest
act_then n cap excerpt tag Sense before after rest = rest
act_then n cap excerpt tag (Nano nano) before after rest = rest

-- so much was told before and so much is now: what came then is told, and nothing more where the route is over
abbrev pub TellsRoute : (Result (List ℕ) RouteFault → Result (List ℕ) RouteFault) → List ℕ → List ℕ → Bool → Type 0
TellsRoute told before after over = (rest : Result (List ℕ) RouteFault) →
    route_preceded_by before (told rest) ≡ (if over then Ok after else route_preceded_by after rest)

-- at this count no message of the tag stands anywhere, nor was one delivered
abbrev pub no_message_fault : Tag → ℕ → RouteFault
no_message_fault tag clock = if nat_le clock tag.birth then Late clock else Unsent

-- what is told at the end, at this count: where the message stands, or that there is none
abbrev pub route_end_text : Tag → ℕ → Option Stand → Result (List ℕ) RouteFault
route_end_text tag clock (Some stand) = Ok (undelivered_line stand)
route_end_text tag clock None = Err (no_message_fault tag clock)

-- what acts tell, one after another, up to the last petit cycle that is told, and the end; or the counter has no room
-- for one of them
unfoldable pub route_from : ℕ → ℕ → Excerpt → Tag → Machine → List Act → Result (List ℕ) RouteFault
route_from n cap excerpt tag machine [] = route_end_text tag machine.clock (stand_in n tag machine)
route_from n cap excerpt tag machine (act ∷ acts) =
    if nat_lt excerpt.to machine.clock then route_end_text tag machine.clock (stand_in n tag machine)
    else if act_lacks_room machine.clock act then Err Clock
    else act_then n cap excerpt tag act machine (run_of n cap machine (act ∷ []))
    (route_from n cap excerpt tag (run_of n cap machine (act ∷ [])) acts)

-- the route of the message of a tag, whose chip has to be one of the cube's, as far as it is told
unfoldable pub route_of : ℕ → ℕ → Excerpt → Tag → Machine → List Act → Result (List ℕ) RouteFault
route_of n cap excerpt tag machine acts =
    if nat_lt tag.chip (2 ^ n) then route_from n cap excerpt tag machine acts else Err (Chip (2 ^ n - 1))
