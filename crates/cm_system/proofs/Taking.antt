-- An image and a text that are taken of files, by the names of these.
use Rattle.std.proofs.Common.{◌≡◌, List, ℕ, Result, Ok, Err, refl, sym, subst, inr}
use Rattle.std.specs.Prelude.{IfOk, IfErr}
use Rattle.cm_language.specs.Program.{ProgramText}
use Rattle.cm_array.specs.Sizes.{SizedMachine}
use Rattle.cm_system.specs.declared.input_files.Taken.{Taken}
use Rattle.cm_system.specs.declared.program_fault.ProgramFault.{ProgramFault}
use Rattle.cm_system.specs.Trace.{IoEvent, HasTrace}
use Rattle.cm_system.specs.InputFiles.{Reads, OpensImage, ReadsProgram, RefusesProgram, TakesBoth, RefusesBoth}
use Rattle.cm_system.proofs.Leading.{did_both}

pub taken_of : {F P : Type 0} {reads : Reads F} {a b x y : List ℕ} {start : SizedMachine} {program : ProgramText}
    {trace : List (IoEvent F P)} → a ≡ b → x ≡ y → TakesBoth reads a x start program trace
    → TakesBoth reads b y start program trace
taken_of {F} {P} {reads} {a} {b} {x} {y} {start} {program} {trace} one two taken =
    subst (λ (image : List ℕ). TakesBoth reads image y start program trace) one
    (subst (λ (text : List ℕ). TakesBoth reads a text start program trace) two taken)

pub refused_of : {F P : Type 0} {reads : Reads F} {a b x y : List ℕ} {fault : ProgramFault} {trace : List (IoEvent F P)}
    → a ≡ b → x ≡ y → RefusesBoth reads a x fault trace → RefusesBoth reads b y fault trace
refused_of {F} {P} {reads} {a} {b} {x} {y} {fault} {trace} one two refused =
    subst (λ (image : List ℕ). RefusesBoth reads image y fault trace) one
    (subst (λ (text : List ℕ). RefusesBoth reads a text fault trace) two refused)

-- a machine was taken, and then a program, or not
pub both_so : {S F P : Type 0} {does : S → IoEvent F P → S → Type 0} {from next : S} (to : S) (reads : Reads F)
    (image text : List ℕ) (machine : SizedMachine) (r : Result (Taken SizedMachine) ProgramFault)
    → HasTrace does from next (OpensImage reads image machine)
    → IfOk r (λ taken. HasTrace does next to (ReadsProgram reads text taken.program))
    → IfOk r (λ taken. taken.machine ≡ machine)
    → IfOk r (λ taken. HasTrace does from to (TakesBoth reads image text taken.machine taken.program))
both_so to reads image text machine (Ok taken) opened given same =
    did_both opened given (λ trace more opens read. record {
      first = trace;
      second = more;
      did = refl;
      opens = subst (λ (any : SizedMachine). OpensImage reads image any trace) (sym same) opens;
      reads_text = read;
    })
both_so to reads image text machine (Err fault) opened given same = tt

pub text_refused : {S F P : Type 0} {does : S → IoEvent F P → S → Type 0} {from next : S} (to : S) (reads : Reads F)
    (image text : List ℕ) (machine : SizedMachine) (r : Result (Taken SizedMachine) ProgramFault)
    → HasTrace does from next (OpensImage reads image machine)
    → IfErr r (λ fault. HasTrace does next to (RefusesProgram reads text fault))
    → IfErr r (λ fault. HasTrace does from to (RefusesBoth reads image text fault))
text_refused to reads image text machine (Ok taken) opened given = tt
text_refused to reads image text machine (Err fault) opened given =
    did_both opened given (λ trace more opens refused. inr (record {
      first = trace;
      second = more;
      did = refl;
      start = machine;
      opens = opens;
      refused = refused;
    }))
