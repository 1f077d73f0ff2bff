use Rattle.std.proofs.Common.{[], refl, inl, inr}
use Rattle.cm_system.proofs.Leading.{did_so}
use Rattle.cm_run.proofs.files.begin_taken.Goals as goal

pub returns-in-Err-clause-refused : goal.returns-in-Err-clause-refused
returns-in-Err-clause-refused g c = record { trace = []; lead = refl; so = inl (refl, c.in-Err.ensures.err) }

pub returns-in-Err-make_ready-clause-refused : goal.returns-in-Err-make_ready-clause-refused
returns-in-Err-make_ready-clause-refused g c =
    did_so c.in-Err-make_ready.ensures.refused (λ trace refused. inr (c.in_default.ensures.ok, refused))
