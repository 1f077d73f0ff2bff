-- How a route goes on, act by act.
use Rattle.std.proofs.Common.{◌≡◌, ℕ, Bool, true, false, List, [], ◌∷◌, Result, Ok, Err, refl, sym, ap, ◌∙◌}
use Rattle.std.proofs.Common.{if◌then◌else◌}
use Rattle.std.specs.Prelude.{nat_lt}
use Rattle.cm_model.specs.declared.act.Act.{Act}
use Rattle.cm_model.specs.declared.message.Tag.{Tag}
use Rattle.cm_model.specs.Machine.{run_of}
use Rattle.lab_route.specs.declared.routes.Excerpt.{Excerpt}
use Rattle.lab_route.specs.declared.routes.RouteFault.{RouteFault}
use Rattle.lab_route.specs.declared.routes.RouteFault.TheVariants.{Clock}
use Rattle.lab_study.specs.Study.{act_lacks_room}
use Rattle.lab_route.specs.Whereabouts.{stand_in}
use Rattle.lab_machine.specs.Machines.{LabView, lab_after}
use Rattle.lab_route.specs.Routes.{route_preceded_by, act_then, route_end_text, route_from}

-- nothing before
pub route_preceded_by-nothing : (rest : Result (List ℕ) RouteFault) → route_preceded_by [] rest ≡ rest
route_preceded_by-nothing (Ok rest) = refl
route_preceded_by-nothing (Err fault) = refl

-- what comes of an act, by whether its petit cycle is past and whether the counter has room
abbrev told_by : LabView → Excerpt → Tag → Act → List Act → Bool → Bool → Result (List ℕ) RouteFault
told_by lab excerpt tag act acts past full =
    if past then route_end_text tag lab.machine.clock (stand_in lab.n tag lab.machine)
    else if full then Err Clock
    else act_then lab.n lab.cap excerpt tag act lab.machine (run_of lab.n lab.cap lab.machine (act ∷ []))
    (route_from lab.n lab.cap excerpt tag (run_of lab.n lab.cap lab.machine (act ∷ [])) acts)

-- an act that was done
pub one_act_told : (lab after : LabView) (excerpt : Excerpt) (tag : Tag) (act : Act) (acts : List Act) (text : List ℕ)
    → nat_lt excerpt.to lab.machine.clock ≡ false → act_lacks_room lab.machine.clock act ≡ false
    → after ≡ lab_after lab act
    → route_preceded_by text (route_from lab.n lab.cap excerpt tag lab.machine (act ∷ acts))
    ≡ route_preceded_by text (act_then lab.n lab.cap excerpt tag act lab.machine after.machine
    (route_from after.n after.cap excerpt tag after.machine acts))
unfolding route_from
one_act_told lab after excerpt tag act acts text early room is =
    (λ i. route_preceded_by text (told_by lab excerpt tag act acts (early i) (room i)))
    ∙ (λ i. route_preceded_by text (act_then lab.n lab.cap excerpt tag act lab.machine (sym is i).machine
    (route_from (sym is i).n (sym is i).cap excerpt tag (sym is i).machine acts)))

-- an act for which the counter has no room
pub no_act_told : (lab : LabView) (excerpt : Excerpt) (tag : Tag) (act : Act) (acts : List Act) (text : List ℕ)
    → nat_lt excerpt.to lab.machine.clock ≡ false → act_lacks_room lab.machine.clock act ≡ true
    → route_preceded_by text (route_from lab.n lab.cap excerpt tag lab.machine (act ∷ acts)) ≡ Err Clock
unfolding route_from
no_act_told lab excerpt tag act acts text early full =
    λ i. route_preceded_by text (told_by lab excerpt tag act acts (early i) (full i))

-- an act behind the last petit cycle that is told
pub past_act_told : (lab : LabView) (excerpt : Excerpt) (tag : Tag) (act : Act) (acts : List Act) (text : List ℕ)
    → nat_lt excerpt.to lab.machine.clock ≡ true
    → route_preceded_by text (route_from lab.n lab.cap excerpt tag lab.machine (act ∷ acts))
    ≡ route_preceded_by text (route_end_text tag lab.machine.clock (stand_in lab.n tag lab.machine))
unfolding route_from
past_act_told lab excerpt tag act acts text past =
    λ i. route_preceded_by text (told_by lab excerpt tag act acts (past i) (act_lacks_room lab.machine.clock act))

-- the end
pub end_told : (lab : LabView) (excerpt : Excerpt) (tag : Tag) (acts : List Act) (text : List ℕ) → acts ≡ []
    → route_preceded_by text (route_from lab.n lab.cap excerpt tag lab.machine acts)
    ≡ route_preceded_by text (route_end_text tag lab.machine.clock (stand_in lab.n tag lab.machine))
unfolding route_from
end_told lab excerpt tag acts text none =
    ap (λ left. route_preceded_by text (route_from lab.n lab.cap excerpt tag lab.machine left)) none
