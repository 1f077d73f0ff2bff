-- How many acts are done while a route is told, act by act.
use Rattle.std.proofs.Common.{◌≡◌, ℕ, ◌+◌, suc, Bool, true, false, List, [], ◌∷◌, subst, sym, ap, ◌∙◌, arith, if◌then◌else◌}
use Rattle.std.specs.Prelude.{nat_lt}
use Rattle.cm_model.specs.declared.act.Act.{Act}
use Rattle.cm_model.specs.declared.message.Tag.{Tag}
use Rattle.cm_model.specs.Machine.{run_of}
use Rattle.lab_study.specs.Watching.{WasTold}
use Rattle.lab_machine.specs.Machines.{LabView, lab_after}
use Rattle.lab_route.specs.declared.routes.Excerpt.{Excerpt}
use Rattle.lab_route.specs.Followed.{act_delivers, acts_followed}

-- how many are done from an act on, by whether its petit cycle is past and whether it delivers the message
abbrev followed_by : LabView → Excerpt → Tag → Act → List Act → Bool → Bool → ℕ
followed_by lab excerpt tag act acts past over =
    if past then 0
    else if over then 1
    else suc (acts_followed lab.n lab.cap excerpt tag (run_of lab.n lab.cap lab.machine (act ∷ [])) acts)

-- an act that was done
pub one_act_followed : (lab after : LabView) (excerpt : Excerpt) (tag : Tag) (act : Act) (acts : List Act) (over : Bool)
    → nat_lt excerpt.to lab.machine.clock ≡ false → after ≡ lab_after lab act
    → over ≡ act_delivers lab.n tag act lab.machine after.machine
    → acts_followed lab.n lab.cap excerpt tag lab.machine (act ∷ acts)
    ≡ (if over then 1 else suc (acts_followed after.n after.cap excerpt tag after.machine acts))
unfolding acts_followed
one_act_followed lab after excerpt tag act acts over early is delivers =
    (λ i. followed_by lab excerpt tag act acts (early i)
    (act_delivers lab.n tag act lab.machine (run_of lab.n lab.cap lab.machine (act ∷ []))))
    ∙ (λ i. if act_delivers lab.n tag act lab.machine (sym is i).machine then 1
    else suc (acts_followed (sym is i).n (sym is i).cap excerpt tag (sym is i).machine acts))
    ∙ (λ i. if sym delivers i then 1 else suc (acts_followed after.n after.cap excerpt tag after.machine acts))

-- an act behind the last petit cycle that is told
pub past_act_followed : (lab : LabView) (excerpt : Excerpt) (tag : Tag) (act : Act) (acts : List Act)
    → nat_lt excerpt.to lab.machine.clock ≡ true
    → acts_followed lab.n lab.cap excerpt tag lab.machine (act ∷ acts) ≡ 0
unfolding acts_followed
past_act_followed lab excerpt tag act acts past =
    λ i. followed_by lab excerpt tag act acts (past i)
    (act_delivers lab.n tag act lab.machine (run_of lab.n lab.cap lab.machine (act ∷ [])))

-- the end
pub none_followed : (lab : LabView) (excerpt : Excerpt) (tag : Tag) (acts : List Act) → acts ≡ []
    → acts_followed lab.n lab.cap excerpt tag lab.machine acts ≡ 0
unfolding acts_followed
none_followed lab excerpt tag acts none =
    ap (λ left. acts_followed lab.n lab.cap excerpt tag lab.machine left) none

-- one of those that are left is done
pub one_further : (done more : ℕ) → done + suc more ≡ done + 1 + more
one_further done more = omega arith

-- where none is left, the watcher was told of all that are done
pub told_of_all : {W : Type 0} (sees : W → ℕ → ℕ → W → Type 0) (all : ℕ) (from : W) (done : ℕ) (to : W) (count left : ℕ)
    → count ≡ done + left → left ≡ 0 → WasTold sees all from done to → WasTold sees all from count to
told_of_all {W} sees all from done to count left is none told =
    subst (λ (k : ℕ). WasTold sees all from k to) (omega (arith, is, none)) told
