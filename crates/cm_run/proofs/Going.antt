-- What is told of a session on a machine that was lent to it.
use Rattle.std.proofs.Common.{◌≡◌, Bool, ℕ, List, Option, Result, Ok, Err, refl, subst}
use Rattle.std.specs.Prelude.{IsErrOf}
use Rattle.cm_model.specs.declared.act.Act.{Act}
use Rattle.cm_session.specs.declared.fault.SessionFault.{SessionFault}
use Rattle.cm_session.specs.declared.fault.SessionFault.TheVariants as session
use Rattle.cm_system.specs.declared.program_fault.ProgramFault.{ProgramFault}
use Rattle.cm_system.specs.declared.program_fault.ProgramFault.TheVariants.{NoThread}
use Rattle.cm_system.specs.ProgramFault.{of_session}
use Rattle.cm_array.specs.Sizes.{SizedMachine}
use Rattle.cm_system.specs.OutputFiles.{KeepsImage}
use Rattle.cm_system.specs.Streams.{Streams}
use Rattle.cm_run.specs.Runs.{IsSession}
use Rattle.cm_run.specs.SessionRunners.{Goes}
use Rattle.cm_run.proofs.Sessions.{ended_well, broken_off}

-- it ended well, and this was kept of the machine that it left
pub left_so : (from to : SizedMachine) (acts : List Act) (streams : Streams) (keeps : Bool)
    (kept : Result (Option (List ℕ)) ProgramFault) → Goes from to acts streams (Ok tt)
    → KeepsImage to.n to.cap to.machine keeps kept → IsSession from acts streams keeps kept
left_so from to acts streams keeps kept goes is =
    ended_well from acts streams keeps to.machine kept goes.ends goes.heard goes.within goes.read goes.write
    (subst (λ (n : ℕ). KeepsImage n from.cap to.machine keeps kept) goes.n
    (subst (λ (cap : ℕ). KeepsImage to.n cap to.machine keeps kept) goes.cap is))

-- it broke off, and this is told
pub off_so : (from to : SizedMachine) (acts : List Act) (streams : Streams) (keeps : Bool) (fault : SessionFault)
    (told : ProgramFault) → told ≡ of_session fault → Goes from to acts streams (Err fault)
    → IsSession from acts streams keeps (Err told)
off_so from to acts streams keeps fault told same goes =
    broken_off from acts streams keeps to.machine fault told same goes.ends goes.heard goes.within goes.read goes.write

-- a thread is wanted only where one was
pub wants_thread : {X Wants : Type 0} (fault : SessionFault) (told : ProgramFault) → told ≡ of_session fault
    → (IsErrOf {T = Unit {0}} (Err fault) session.NoThread → Wants) → IsErrOf {T = X} (Err told) NoThread → Wants
wants_thread session.Read told same wants e = absurd (cc)
wants_thread (session.Write count) told same wants e = absurd (cc)
wants_thread session.TooMuch told same wants e = absurd (cc)
wants_thread session.Memory told same wants e = absurd (cc)
wants_thread session.NoThread told same wants e = wants refl
