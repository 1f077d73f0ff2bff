use Rattle.std.proofs.Common.{◌++◌, codes, decimal, eq-eqb, ne_eqb}
use Rattle.std.proofs.KnownBytes.{Appends-trans}
use Rattle.cm_system.specs.Report.{name_of, line_place}
use Rattle.cm_system.proofs.Fronts.{front_of_first, front_of_second, on_err, on_err_then}
use Rattle.cm_system.proofs.reports.write_message.Goals as goal

pub returns-then-number-eq-BAD_LINE-clause-err : goal.returns-then-number-eq-BAD_LINE-clause-err
returns-then-number-eq-BAD_LINE-clause-err g c =
    on_err_then c.write_text.result
    c.write_text.ensures.err (λ front. rw (eq-eqb c.args.number 38 c.if-number-eq-BAD_LINE.true) front)

pub returns-in_err-write_text-clause-err : goal.returns-in_err-write_text-clause-err
returns-in_err-write_text-clause-err g c =
    on_err c.from_residual.result (rw (ne_eqb c.args.number 38 c.if-number-eq-BAD_LINE.false)
    (front_of_first _ _ (codes "cm1: " ++ line_place c.args.line)
    (decimal c.args.number ++ codes " " ++ name_of c.args.number ++ codes "\n")
    (front_of_first _ _ (codes "cm1: ") (line_place c.args.line) c.in_err-write_text.ensures.err)))

pub returns-in_err-write_place-clause-err : goal.returns-in_err-write_place-clause-err
returns-in_err-write_place-clause-err g c =
    on_err c.from_residual-in_err-write_place.result (rw (ne_eqb c.args.number 38 c.if-number-eq-BAD_LINE.false)
    (front_of_first _ _ (codes "cm1: " ++ line_place c.args.line)
    (decimal c.args.number ++ codes " " ++ name_of c.args.number ++ codes "\n")
    (front_of_second _ _ _ (codes "cm1: ") (line_place c.args.line) c.in_ok-write_text.ensures.ok
    c.in_err-write_place.ensures.err)))

pub returns-clause-err : goal.returns-clause-err
returns-clause-err g c =
    on_err_then c.write_fault.result
    c.write_fault.ensures.err (λ front. rw (ne_eqb c.args.number 38 c.if-number-eq-BAD_LINE.false)
    (front_of_second _ _ _ (codes "cm1: " ++ line_place c.args.line)
    (decimal c.args.number ++ codes " " ++ name_of c.args.number ++ codes "\n")
    (Appends-trans _ _ _ _ _ c.in_ok-write_text.ensures.ok c.in_ok-write_place.ensures.ok) front))
