-- What follows from what holds where something was done, or was not.
use Rattle.std.proofs.Common.{Result, Ok, Err, OnOk, IfOk, IfErr}

-- if it was done
pub on_ok : {A E P Q : Type 0} (result : Result A E) → (Q → P) → OnOk result Q → OnOk result P
on_ok (Ok x) so q = so q
on_ok (Err e) so q = tt

pub if_ok : {A E : Type 0} {P Q : A → Type 0} (result : Result A E) → ((x : A) → Q x → P x) → IfOk result Q → IfOk result P
if_ok (Ok x) so q = so x q
if_ok (Err e) so q = tt

pub if_err : {A E : Type 0} {P Q : E → Type 0} (result : Result A E) → ((e : E) → Q e → P e) → IfErr result Q
    → IfErr result P
if_err (Ok x) so q = tt
if_err (Err e) so q = so e q

-- what holds anyway
pub ok_anyway : {A E P : Type 0} (result : Result A E) → P → OnOk result P
ok_anyway (Ok x) p = p
ok_anyway (Err e) p = tt
