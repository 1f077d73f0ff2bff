-- How a session ends whose image is to be kept, of how the session by itself ended.
use Rattle.std.proofs.Common.{◌≡◌, ◌+◌, Bool, true, false, ℕ, List, Option, Some, None, Result, Ok, Err, refl, sym, subst}
use Rattle.std.specs.Prelude.{◌↔◌, IfSome, IsErrOf}
use Rattle.cm_model.specs.declared.act.Act.{Act}
use Rattle.cm_model.specs.Machine.{Machine}
use Rattle.cm_session.specs.declared.fault.SessionFault.{SessionFault}
use Rattle.cm_session.specs.declared.fault.SessionFault.TheVariants as session
use Rattle.cm_session.specs.Reading.{ConsumesAtMost, PIECE_LIMIT}
use Rattle.cm_session.specs.Ends.{COMMANDS_LIMIT, Ends, EndsForSome, is_write}
use Rattle.cm_system.specs.declared.program_fault.ProgramFault.{ProgramFault}
use Rattle.cm_system.specs.declared.program_fault.ProgramFault.TheVariants.{Read, Write, Memory, NoThread}
use Rattle.cm_system.specs.ProgramFault.{of_session}
use Rattle.cm_array.specs.Sizes.{SizedMachine}
use Rattle.cm_system.specs.OutputFiles.{KeepsImage}
use Rattle.cm_run.specs.Run.{IsReportedAs}
use Rattle.cm_system.specs.Streams.{Streams}
use Rattle.cm_run.specs.Runs.{IsSession}

-- what follows where there is a value
lift_some : {X : Type 0} {P Q : X → Type 0} (o : Option X) → ((x : X) → P x → Q x) → IfSome o P → IfSome o Q
lift_some (Some x) f h = f x h
lift_some None f h = tt

-- want of memory for the image
wants_memory : (keeps : Bool) (fault : ProgramFault) → keeps ≡ true → fault ≡ Memory
    → IsReportedAs keeps (Ok tt) fault
wants_memory true fault is same = same
wants_memory false fault is same = absurd (let wrong : false ≡ true = is in cc)

-- it ended well
pub ended_well : (start : SizedMachine) (acts : List Act) (streams : Streams) (keeps : Bool) (after : Machine)
    (kept : Result (Option (List ℕ)) ProgramFault)
    → IfSome streams.lines (λ lines. Ends start.n start.cap acts lines streams.rest start.machine streams.out_before after
    streams.out_after (Ok tt))
    → EndsForSome start.n start.cap acts streams.lines streams.rest start.machine streams.out_before after streams.out_after (Ok tt)
    → ConsumesAtMost (COMMANDS_LIMIT + PIECE_LIMIT) streams.lines streams.rest
    → ((streams.read_failed ≡ true) ↔ IsErrOf {T = Unit {0}} {E = SessionFault} (Ok tt) session.Read)
    → streams.write_failed ≡ false → KeepsImage start.n start.cap after keeps kept
    → IsSession start acts streams keeps kept
ended_well start acts streams keeps after (Ok image) ends heard within read write is = record {
  ends = lift_some streams.lines (λ lines h. record { after = after; ends = h; kept = is }) ends;
  heard = record {
    lines = heard.text;
    read = heard.read;
    end = heard.end;
    run = record { after = after; ends = heard.ends; kept = is };
  };
  within = within;
  read = (λ failed. absurd (let wrong = read.0 failed in cc), λ e. absurd (cc));
  write = (λ failed. absurd (cc), λ e. absurd (cc));
}
ended_well start acts streams keeps after (Err fault) ends heard within read write is = record {
  ends = lift_some streams.lines
      (λ lines h. record { after = after; result = Ok tt; ends = h; told = wants_memory keeps fault is.0 is.1 }) ends;
  heard = record {
    lines = heard.text;
    read = heard.read;
    run = record { after = after; result = Ok tt; ends = heard.ends; told = wants_memory keeps fault is.0 is.1 };
    end = heard.end;
  };
  within = within;
  read = (λ failed. absurd (let wrong = read.0 failed in cc), λ e. absurd (let same = is.1 in cc));
  write = (λ failed. absurd (cc), λ e. absurd (let same = is.1 in cc));
}

-- no thread is wanted for what is kept
pub kept_without : (n cap : ℕ) (after : Machine) (keeps : Bool) {Wants : Type 0}
    (kept : Result (Option (List ℕ)) ProgramFault) → KeepsImage n cap after keeps kept → IsErrOf kept NoThread → Wants
kept_without n cap after keeps (Ok image) is e = absurd (cc)
kept_without n cap after keeps (Err fault) is e = absurd (let same = is.1 in cc)

own_fault : (keeps : Bool) (fault : SessionFault) → IsReportedAs keeps (Err fault) (of_session fault)
own_fault true fault = refl
own_fault false fault = refl

-- what is told of a session's fault is that fault
same_read : (failed : Bool) (fault : SessionFault)
    → ((failed ≡ true) ↔ IsErrOf {T = Unit {0}} (Err fault) session.Read)
    → ((failed ≡ true) ↔ IsErrOf {T = Option (List ℕ)} (Err (of_session fault)) Read)
same_read failed session.Read h = (λ f. refl, λ e. h.1 refl)
same_read failed (session.Write count) h = (λ f. absurd (let wrong = h.0 f in cc), λ e. absurd (cc))
same_read failed session.TooMuch h = (λ f. absurd (let wrong = h.0 f in cc), λ e. absurd (cc))
same_read failed session.Memory h = (λ f. absurd (let wrong = h.0 f in cc), λ e. absurd (cc))
same_read failed session.NoThread h = (λ f. absurd (let wrong = h.0 f in cc), λ e. absurd (cc))

same_write : (failed : Bool) (fault : SessionFault) → failed ≡ is_write (Err fault)
    → ((failed ≡ true) ↔ IsErrOf {T = Option (List ℕ)} (Err (of_session fault)) Write)
same_write failed session.Read is = (λ f. absurd (cc), λ e. absurd (cc))
same_write failed (session.Write count) is = (λ f. refl, λ e. is)
same_write failed session.TooMuch is = (λ f. absurd (cc), λ e. absurd (cc))
same_write failed session.Memory is = (λ f. absurd (cc), λ e. absurd (cc))
same_write failed session.NoThread is = (λ f. absurd (cc), λ e. absurd (cc))

-- it broke off, and this is told
pub broken_off : (start : SizedMachine) (acts : List Act) (streams : Streams) (keeps : Bool) (after : Machine)
    (fault : SessionFault) (told : ProgramFault) → told ≡ of_session fault
    → IfSome streams.lines (λ lines. Ends start.n start.cap acts lines streams.rest start.machine streams.out_before after
    streams.out_after (Err fault))
    → EndsForSome start.n start.cap acts streams.lines streams.rest start.machine streams.out_before after streams.out_after
    (Err fault)
    → ConsumesAtMost (COMMANDS_LIMIT + PIECE_LIMIT) streams.lines streams.rest
    → ((streams.read_failed ≡ true) ↔ IsErrOf {T = Unit {0}} (Err fault) session.Read)
    → streams.write_failed ≡ is_write (Err fault) → IsSession start acts streams keeps (Err told)
broken_off start acts streams keeps after fault told same ends heard within read write =
    subst (λ (f : ProgramFault). IsSession start acts streams keeps (Err f)) (sym same) (record {
      ends = lift_some streams.lines
          (λ lines h. record { after = after; result = Err fault; ends = h; told = own_fault keeps fault }) ends;
      heard = record {
        lines = heard.text;
        read = heard.read;
        run = record { after = after; result = Err fault; ends = heard.ends; told = own_fault keeps fault };
        end = tt;
      };
      within = within;
      read = same_read _ fault read;
      write = same_write _ fault write;
    })
