-- How an exchange ends that the program steps, and what it keeps of its machine. Ours.
use Rattle.std.specs.Prelude.{◌≡◌, ◌+◌, ◌↔◌, ℕ, Bool, true, Option, Some, None, IfSome, IsErrOf, Result, Ok, Err, List}
use Rattle.std.specs.Io.KnownBytes.{Appends}
use Rattle.cm_model.specs.Machine.{Machine, run_of}
use Rattle.cm_exchange.specs.Lanes.{Exchange}
use Rattle.cm_exchange.specs.Worlds.{World}
use Rattle.cm_weave.specs.Woven.{Woven}
use Rattle.cm_weave_text.specs.declared.fault.WeaveFault.{WeaveFault}
use Rattle.cm_weave_text.specs.declared.fault.WeaveFault.TheVariants as weave
use Rattle.cm_weave_text.specs.Alone.{own_text}
use Rattle.cm_session.specs.Reading.{ConsumesAtMost, PIECE_LIMIT}
use Rattle.cm_weave_text.specs.Ends.{STEPS_LIMIT, EndsBy, EndsByForSome, EndsFinished, EndsFinishedForSome, IsWrittenInPart, is_weave_write}
use Rattle.cm_weave_text.specs.Hearing.{exchange_in}
use Rattle.cm_system.specs.declared.program_fault.ProgramFault.{ProgramFault}
use Rattle.cm_system.specs.ProgramFault.{of_weave}
use Rattle.cm_system.specs.InputFiles.{Reads}
use Rattle.cm_system.specs.OutputFiles.{KeepsImage}

-- what standard output held and holds, and whether it has failed
pub record Outgoing : Type 0 where
  pub out_before : Option (List ℕ)
  pub out_after : Option (List ℕ)
  pub failed : Bool

-- the same of its parts
abbrev pub outgoing_of : Option (List ℕ) → Option (List ℕ) → Bool → Outgoing
outgoing_of out_before out_after failed = record { out_before = out_before; out_after = out_after; failed = failed }

-- how an exchange ended, whatever machine it left
abbrev pub ended_of : {M : Type 0} → Result M WeaveFault → Result (Unit {0}) WeaveFault
ended_of (Ok machine) = Ok tt
ended_of (Err fault) = Err fault

-- an exchange ends so by the lines of this text
abbrev pub EndsBySteps : Exchange → World → List ℕ → Option (List ℕ) → Outgoing → Result (Unit {0}) WeaveFault → Type 0
EndsBySteps exchange world text rest out (Ok done) = EndsFinished exchange text world out.out_before out.out_after
EndsBySteps exchange world text rest out (Err fault) = EndsBy exchange text rest world out.out_before out.out_after fault

-- and so by the lines of some text that a source gave of which that is left: this can be said of a file that does not
-- tell its bytes
abbrev pub EndsBySome : Exchange → Option (List ℕ) → Option (List ℕ) → World → Outgoing
    → Result (Unit {0}) WeaveFault → Type 0
EndsBySome exchange source rest world out (Ok done) =
    EndsFinishedForSome exchange source rest world out.out_before out.out_after
EndsBySome exchange source rest world out (Err fault) =
    EndsByForSome exchange source rest world out.out_before out.out_after fault

-- and so by itself
abbrev pub EndsByItself : Exchange → World → Outgoing → Result (Unit {0}) WeaveFault → Type 0
EndsByItself exchange world out (Ok done) = Appends out.out_before out.out_after (own_text exchange world)
EndsByItself exchange world out (Err fault) = IsWrittenInPart (own_text exchange world) out.out_before out.out_after fault

-- a file of steps is heard, and the exchange ends so
pub record HearsSteps {F : Type 0} (reads : Reads F) (exchange : Exchange) (world : World) (file : F) (out : Outgoing)
    (ended : Result (Unit {0}) WeaveFault) : Type 0 where
  pub after : F
  pub ends : IfSome (reads.left file) (λ text. EndsBySteps exchange world text (reads.left after) out ended)
  pub heard : EndsBySome exchange (reads.left file) (reads.left after) world out ended
  pub within : ConsumesAtMost (STEPS_LIMIT + PIECE_LIMIT) (reads.left file) (reads.left after)
  pub read : (reads.has_failed after ≡ true) ↔ IsErrOf ended weave.Read

-- an exchange ends so, by a file of steps or, where there is none, by itself
abbrev pub EndsExchange : {F : Type 0} → Reads F → Exchange → World → Option F → Outgoing
    → Result (Unit {0}) WeaveFault → Type 0
EndsExchange reads exchange world (Some file) out ended = HearsSteps reads exchange world file out ended
EndsExchange reads exchange world None out ended = EndsByItself exchange world out ended

-- once it ended so: the image of the machine that is left, if one is to be kept; else its fault, or want of memory for
-- that image
abbrev pub KeepsLeft : ℕ → ℕ → Machine → Bool → Result (Unit {0}) WeaveFault
    → Result (Option (List ℕ)) ProgramFault → Type 0
KeepsLeft n cap machine keeps (Ok done) ran = KeepsImage n cap machine keeps ran
KeepsLeft n cap machine keeps (Err own) (Ok kept) = ⊥
KeepsLeft n cap machine keeps (Err own) (Err fault) = fault ≡ of_weave own

-- a world of a machine of n dimensions is stepped to the end of the steps, and this is kept of its machine
pub record IsWoven {F : Type 0} (reads : Reads F) (n cap : ℕ) (woven : Woven) (file : Option F) (keeps : Bool)
    (out : Outgoing) (ran : Result (Option (List ℕ)) ProgramFault) : Type 0 where
  pub ended : Result (Unit {0}) WeaveFault
  pub ends : EndsExchange reads (exchange_in n cap woven) woven.world file out ended
  pub write : out.failed ≡ is_weave_write ended
  pub kept : KeepsLeft n cap (run_of n cap woven.machine woven.acts) keeps ended ran
