-- What is said of a world that is stepped, where one value is another.
use Rattle.std.proofs.Common.{◌≡◌, ℕ, ◌+◌, Result, None, Ok, Err, List, true, refl, subst, ap, ◌∙◌}
use Rattle.std.specs.Prelude.{◌↔◌, IfErr, IfSome, IsErrOf, IsOk, MatchResult, unwrap_or}
use Rattle.std.specs.Io.KnownBytes.{Appends}
use Rattle.cm_model.specs.declared.act.Act.{Act}
use Rattle.cm_model.specs.Machine.{Machine}
use Rattle.cm_weave.specs.declared.first.WorldFault.{WorldFault}
use Rattle.cm_weave.specs.declared.first.WorldFault.TheVariants as world
use Rattle.cm_weave.specs.Faults.{world_fault}
use Rattle.cm_weave.specs.First.{IsFirst}
use Rattle.cm_exchange.specs.Lanes.{Exchange}
use Rattle.cm_exchange.specs.Worlds.{World}
use Rattle.cm_weave.specs.Woven.{Woven}
use Rattle.cm_session.specs.Reading.{ConsumesAtMost, PIECE_LIMIT}
use Rattle.cm_weave_text.specs.declared.fault.WeaveFault.{WeaveFault}
use Rattle.cm_weave_text.specs.declared.fault.WeaveFault.TheVariants as weave
use Rattle.cm_weave_text.specs.Alone.{own_text}
use Rattle.cm_weave_text.specs.Ends.{STEPS_LIMIT, EndsBy, EndsByForSome, EndsFinished, EndsFinishedForSome, IsWrittenInPart}
use Rattle.cm_system.specs.declared.program_fault.ProgramFault.{ProgramFault}
use Rattle.cm_system.specs.ProgramFault.{of_world}
use Rattle.cm_system.specs.InputFiles.{Reads}
use Rattle.cm_tools.specs.Weaving.{Outgoing, ended_of, EndsByItself, HearsSteps}

pub same_acts : {n cap k : ℕ} {machine : Machine} {woven : Woven} {a b : List Act} → a ≡ b
    → IsFirst n cap k machine a woven → IsFirst n cap k machine b woven
same_acts {n} {cap} {k} {machine} {woven} {a} {b} is h =
    subst (λ (acts : List Act). IsFirst n cap k machine acts woven) is h

pub faultless : (n k clock : ℕ) {a b : List Act} → a ≡ b → world_fault n k clock a ≡ None
    → world_fault n k clock b ≡ None
faultless n k clock {a} {b} is h = subst (λ (acts : List Act). world_fault n k clock acts ≡ None) is h

pub told_fault : (n k clock : ℕ) {a b : List Act} {own : WorldFault} {fault : ProgramFault} → a ≡ b
    → fault ≡ of_world own → own ≡ unwrap_or (world_fault n k clock a) world.Memory
    → ◌≡◌ {A = Result (Unit {0}) ProgramFault} (Err fault)
    (Err (of_world (unwrap_or (world_fault n k clock b) world.Memory)))
told_fault n k clock {a} {b} {own} {fault} is told why =
    ap (λ (f : ProgramFault). Err f)
    (told ∙ ap of_world why
    ∙ ap (λ (acts : List Act). of_world (unwrap_or (world_fault n k clock acts) world.Memory)) is)

-- a result whose value, if it has one, is exchanged for another result
other : {A B E : Type 0} → Result B E → Result A E → Result B E
other z (Ok x) = z
other z (Err e) = Err e

-- which fault there is does not hang on what there would be without one
pub same_fault : {A B E P : Type 0} {f g : E} → (P ↔ IsErrOf {T = A} (Err f) g) → (P ↔ IsErrOf {T = B} (Err f) g)
unfolding other
same_fault {A} {B} {E} {P} {f} {g} h =
    (λ p. ap (other {A = A} {B = B} {E = E} (Err f)) (h.0 p), λ e. h.1 (ap (other {A = B} {B = A} {E = E} (Err f)) e))

pub same_none : {A B E P : Type 0} {a : A} {b : B} {g : E} → (P ↔ IsErrOf {T = A} (Ok a) g)
    → (P ↔ IsErrOf {T = B} (Ok b) g)
unfolding other
same_none {A} {B} {E} {P} {a} {b} {g} h =
    (λ p. ap (other {A = A} {B = B} {E = E} (Ok b)) (h.0 p), λ e. h.1 (ap (other {A = B} {B = A} {E = E} (Ok a)) e))

-- how an exchange ended that heard a file of steps, whatever machine it left
pub hears_so : {F M : Type 0} (reads : Reads F) (exchange : Exchange) (first : World) (file after : F) (out : Outgoing)
    (r : Result M WeaveFault)
    → (IsOk r → IfSome (reads.left file) (λ text. EndsFinished exchange text first out.out_before out.out_after))
    → IfErr r (λ fault. IfSome (reads.left file)
    (λ text. EndsBy exchange text (reads.left after) first out.out_before out.out_after fault))
    → MatchResult r
    (λ _. EndsFinishedForSome exchange (reads.left file) (reads.left after) first out.out_before out.out_after)
    (EndsByForSome exchange (reads.left file) (reads.left after) first out.out_before out.out_after)
    → ConsumesAtMost (STEPS_LIMIT + PIECE_LIMIT) (reads.left file) (reads.left after)
    → (reads.has_failed after ≡ true) ↔ IsErrOf r weave.Read → HearsSteps reads exchange first file out (ended_of r)
hears_so reads exchange first file after out (Ok machine) finished err heard within read =
    record { after = after; ends = finished refl; heard = heard; within = within; read = same_none read }
hears_so reads exchange first file after out (Err fault) finished err heard within read =
    record { after = after; ends = err; heard = heard; within = within; read = same_fault read }

-- and one that went by itself
pub tells_so : {M : Type 0} (exchange : Exchange) (first : World) (out : Outgoing) (r : Result M WeaveFault)
    → (IsOk r → Appends out.out_before out.out_after (own_text exchange first))
    → IfErr r (IsWrittenInPart (own_text exchange first) out.out_before out.out_after) → EndsByItself exchange first out (ended_of r)
tells_so exchange first out (Ok machine) whole err = whole refl
tells_so exchange first out (Err fault) whole err = err
