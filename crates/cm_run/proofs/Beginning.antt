-- A session over files begins, or not, once an image and a program are taken.
use Rattle.std.proofs.Common.{◌≡◌, ◌⊎◌, ℕ, List, ◌++◌, Result, Ok, Err, Some, None, refl, sym, ap, ◌∙◌, subst}
use Rattle.std.proofs.Common.{inl, inr, append-nil}
use Rattle.std.specs.Prelude.{IfOk, IfErr, OnOk, option_map, string_bytes}
use Rattle.cm_array.specs.Sizes.{SizedMachine}
use Rattle.cm_system.specs.declared.input_files.Taken.{Taken}
use Rattle.cm_system.specs.declared.program_fault.ProgramFault.{ProgramFault}
use Rattle.cm_system.specs.Trace.{IoEvent, HasTrace}
use Rattle.cm_system.specs.InputFiles.{Reads}
use Rattle.cm_system.specs.OutputFiles.{Readies}
use Rattle.cm_system.proofs.Leading.{did_both}
use Rattle.cm_run.specs.declared.files.RunLine.{RunLine}
use Rattle.cm_run.specs.declared.files.PreparedFiles.{PreparedFiles}
use Rattle.cm_run.specs.Sharing.{sharing_fault}
use Rattle.cm_run.specs.Files.{TakesFiles, BeginsFiles, RefusesSharing, RefusesOut, RefusesFiles, RefusesTaken}

-- it begins
pub begun_so : {S F P : Type 0} {does : S → IoEvent F P → S → Type 0} {from next : S} (to : S) (reads : Reads F)
    (line : RunLine) (taken : Taken SizedMachine) (n : ℕ) → n ≡ taken.machine.n
    → (r : Result (PreparedFiles SizedMachine P) ProgramFault)
    → HasTrace does from next (TakesFiles reads line taken.machine taken.program)
    → IfOk r (λ begun. begun.taken ≡ taken) → OnOk r (sharing_fault n line.sharing ≡ None)
    → IfOk r (λ begun. HasTrace does next to (Readies (option_map string_bytes line.out) begun.part))
    → IfOk r (λ begun. HasTrace does from to
    (BeginsFiles reads line begun.taken.machine begun.taken.program begun.part))
begun_so to reads line taken n dims (Ok begun) took same shared ready =
    did_both took ready (λ trace more both made. record {
      first = trace;
      second = more;
      did = refl;
      both = subst (λ (t : Taken SizedMachine). TakesFiles reads line t.machine t.program trace) (sym same) both;
      shared = subst (λ (t : Taken SizedMachine). sharing_fault t.machine.n line.sharing ≡ None) (sym same)
          (subst (λ (k : ℕ). sharing_fault k line.sharing ≡ None) dims shared);
      ready = made;
    })
begun_so to reads line taken n dims (Err fault) took same shared ready = tt

refused_end : {F P : Type 0} (reads : Reads F) (line : RunLine) (taken : Taken SizedMachine) (n : ℕ)
    → n ≡ taken.machine.n → (fault : ProgramFault) (trace more : List (IoEvent F P))
    → TakesFiles reads line taken.machine taken.program trace → RefusesTaken n line fault more
    → RefusesSharing reads line fault (trace ++ more) ⊎ RefusesOut reads line fault (trace ++ more)
refused_end {F} {P} reads line taken n dims fault trace more both (inl unshared) = inl (record {
  start = taken.machine;
  program = taken.program;
  both = subst (λ (all : List (IoEvent F P)). TakesFiles reads line taken.machine taken.program all)
      (sym (ap (λ (xs : List (IoEvent F P)). trace ++ xs) unshared.0 ∙ append-nil trace)) both;
  refused = subst (λ (k : ℕ). sharing_fault k line.sharing ≡ Some fault) dims unshared.1;
})
refused_end {F} {P} reads line taken n dims fault trace more both (inr unready) = inr (record {
  first = trace;
  second = more;
  did = refl;
  start = taken.machine;
  program = taken.program;
  both = both;
  shared = subst (λ (k : ℕ). sharing_fault k line.sharing ≡ None) dims unready.0;
  refused = unready.1;
})

-- it does not
pub unbegun_so : {S F P : Type 0} {does : S → IoEvent F P → S → Type 0} {from next : S} (to : S) (reads : Reads F)
    (line : RunLine) (taken : Taken SizedMachine) (n : ℕ) → n ≡ taken.machine.n
    → (r : Result (PreparedFiles SizedMachine P) ProgramFault)
    → HasTrace does from next (TakesFiles reads line taken.machine taken.program)
    → IfErr r (λ fault. HasTrace does next to (RefusesTaken n line fault))
    → IfErr r (λ fault. HasTrace does from to (RefusesFiles reads line fault))
unbegun_so to reads line taken n dims (Ok begun) took given = tt
unbegun_so to reads line taken n dims (Err fault) took given =
    did_both took given
    (λ trace more both refused. inr (refused_end reads line taken n dims fault trace more both refused))
