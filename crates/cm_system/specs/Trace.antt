-- What the program does to what lies outside of it, deed by deed. Ours.
use Rattle.std.specs.Prelude.{◌≡◌, ℕ, Option, Result, Vec, String, List, [], ◌∷◌}
use Rattle.std.specs.declared.alloc.Global.{Global}
use Rattle.cm_bits.specs.declared.ends.Failed.{Failed}
use Rattle.cm_args.specs.declared.fault.LineFault.{LineFault}
use Rattle.cm_system.specs.declared.system.PutFault.{PutFault}

-- one deed, and what came of it, where files that are read are an F, and those that are made ready a P
pub data IoEvent (F P : Type 0) : Type 0 where
  -- the words of the command line were asked for
  Asked : (words : Result (Vec (String Global) Global) LineFault) → IoEvent F P
  -- a file was opened, to be read
  Opened : (path : List ℕ) (file : Result F Failed) → IoEvent F P
  -- a file was made ready that is to stand where the path says
  Readied : (path : List ℕ) (part : Result P PutFault) → IoEvent F P
  -- what standard output had taken so far went out
  Flushed : (out_after : Option (List ℕ)) (done : Result (Unit {0}) Failed) → IoEvent F P
  -- a file that was made ready was to get these bytes and its place
  Filled : (part : P) (bytes : List ℕ) (done : Result (Unit {0}) PutFault) → IoEvent F P
  -- a file that was made ready was taken away
  LetGo : (part : P) → IoEvent F P

-- these deeds, in turn, lead from one state of the outside to another
abbrev pub Leads : {S D : Type 0} → (S → D → S → Type 0) → S → List D → S → Type 0
Leads {S} does from [] to = from ≡ to
Leads {S} does from (deed ∷ trace) to = (next : S) × does from deed next × Leads does next trace to

-- deeds lead from one state of the outside to another, of which this holds
pub record HasTrace {S D : Type 0} (does : S → D → S → Type 0) (from to : S) (So : List D → Type 0) : Type 0 where
  pub trace : List D
  pub lead : Leads does from trace to
  pub so : So trace
