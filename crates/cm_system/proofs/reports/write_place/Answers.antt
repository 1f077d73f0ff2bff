use Rattle.std.proofs.Common.{◌++◌, codes, decimal}
use Rattle.std.proofs.KnownBytes.{Appends-trans}
use Rattle.cm_system.proofs.Fronts.{front_of_first, front_of_second, on_err, on_err_then}
use Rattle.cm_system.proofs.reports.write_place.Goals as goal

pub returns-in_err-write_text-clause-err : goal.returns-in_err-write_text-clause-err
returns-in_err-write_text-clause-err g c = on_err c.from_residual.result (rw c.in-Some.is
    (front_of_first _ _ (codes "line " ++ decimal c.in-Some.line) (codes ": ")
    (front_of_first _ _ (codes "line ") (decimal c.in-Some.line) c.in_err-write_text.ensures.err)))

pub returns-in_err-write_number-clause-err : goal.returns-in_err-write_number-clause-err
returns-in_err-write_number-clause-err g c = on_err c.from_residual-in_err-write_number.result (rw c.in-Some.is
    (front_of_first _ _ (codes "line " ++ decimal c.in-Some.line) (codes ": ")
    (front_of_second _ _ _ (codes "line ") (decimal c.in-Some.line) c.in_ok-write_text.ensures.ok
    c.in_err-write_number.ensures.err)))

pub returns-clause-err : goal.returns-clause-err
returns-clause-err g c = on_err_then c.write_text-2.result c.write_text-2.ensures.err (λ front. rw c.in-Some.is
    (front_of_second _ _ _ (codes "line " ++ decimal c.in-Some.line) (codes ": ")
    (Appends-trans _ _ _ _ _ c.in_ok-write_text.ensures.ok c.in_ok-write_number.ensures.ok) front))
