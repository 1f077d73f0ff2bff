use Rattle.std.proofs.Common.{◌++◌, codes, decimal}
use Rattle.std.proofs.KnownBytes.{Appends-trans}
use Rattle.cm_system.specs.Report.{name_of}
use Rattle.cm_system.proofs.Fronts.{front_of_first, front_of_second, on_err, on_err_then}
use Rattle.cm_system.proofs.reports.write_fault.Goals as goal

pub returns-in_err-write_number-clause-err : goal.returns-in_err-write_number-clause-err
returns-in_err-write_number-clause-err g c = on_err c.from_residual.result
    (front_of_first _ _ (decimal c.args.number ++ codes " " ++ name_of c.args.number) (codes "\n")
    (front_of_first _ _ (decimal c.args.number ++ codes " ") (name_of c.args.number)
    (front_of_first _ _ (decimal c.args.number) (codes " ") (rw c.from.ensures at c.in_err-write_number.ensures.err))))

pub returns-in_err-write_text-clause-err : goal.returns-in_err-write_text-clause-err
returns-in_err-write_text-clause-err g c = on_err c.from_residual-in_err-write_text.result
    (front_of_first _ _ (decimal c.args.number ++ codes " " ++ name_of c.args.number) (codes "\n")
    (front_of_first _ _ (decimal c.args.number ++ codes " ") (name_of c.args.number)
    (front_of_second _ _ _ (decimal c.args.number) (codes " ") (rw c.from.ensures at c.in_ok-write_number.ensures.ok)
    c.in_err-write_text.ensures.err)))

pub returns-in_err-write_text-2-clause-err : goal.returns-in_err-write_text-2-clause-err
returns-in_err-write_text-2-clause-err g c = on_err c.from_residual-in_err-write_text-2.result
    (front_of_first _ _ (decimal c.args.number ++ codes " " ++ name_of c.args.number) (codes "\n")
    (front_of_second _ _ _ (decimal c.args.number ++ codes " ") (name_of c.args.number)
    (Appends-trans _ _ _ _ _ (rw c.from.ensures at c.in_ok-write_number.ensures.ok) c.in_ok-write_text.ensures.ok)
    (rw c.fault_name.ensures.value at c.in_err-write_text-2.ensures.err)))

pub returns-clause-err : goal.returns-clause-err
returns-clause-err g c = on_err_then c.write_text-3.result c.write_text-3.ensures.err (λ front.
    front_of_second _ _ _ (decimal c.args.number ++ codes " " ++ name_of c.args.number) (codes "\n")
    (Appends-trans _ _ _ _ _
    (Appends-trans _ _ _ _ _ (rw c.from.ensures at c.in_ok-write_number.ensures.ok) c.in_ok-write_text.ensures.ok)
    (rw c.fault_name.ensures.value at c.in_ok-write_text-2.ensures.ok))
    front)
