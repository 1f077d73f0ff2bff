-- The first bytes of a text that is written in parts.
use Rattle.std.proofs.Common.{ℕ, ◌+◌, ◌≤◌, Option, Result, Ok, Err, OnErr, List, ◌++◌, length, arith, length-append}
use Rattle.std.proofs.lemmas.List.{take-append-le}
use Rattle.std.proofs.Math.Seq.{take-append-add}
use Rattle.std.proofs.KnownBytes.{Appends-trans}
use Rattle.std.specs.Io.KnownBytes.{Appends}
use Rattle.cm_system.specs.Report.{HasFront}

-- only the first bytes of the first part
pub front_of_first : (out_before out_after : Option (List ℕ)) (first second : List ℕ) → HasFront out_before out_after first
    → HasFront out_before out_after (first ++ second)
front_of_first out_before out_after first second front = record {
  count = front.count;
  short = omega (arith, length-append first second, front.short);
  written = let within : front.count ≤ length first = omega (arith, front.short) in rw take-append-le front.written;
}

-- the first part, and the first bytes of the second
pub front_of_second : (out_before between out_after : Option (List ℕ)) (first second : List ℕ) → Appends out_before between first
    → HasFront between out_after second → HasFront out_before out_after (first ++ second)
front_of_second out_before between out_after first second whole front = record {
  count = length first + front.count;
  short = omega (arith, length-append first second, front.short);
  written = rw (take-append-add first second front.count) (Appends-trans _ _ _ _ _ whole front.written);
}

-- a fact that holds holds of every error
pub on_err : {A E P : Type 0} (result : Result A E) → P → OnErr result P
on_err (Ok x) p = tt
on_err (Err e) p = p

-- what follows of an error's fact
pub on_err_then : {A E P Q : Type 0} (result : Result A E) → OnErr result P → (P → Q) → OnErr result Q
on_err_then (Ok x) p then_q = tt
on_err_then (Err e) p then_q = then_q p
