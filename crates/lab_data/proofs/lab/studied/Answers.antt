use Rattle.lab_study.specs.Studies.{study_table}
use Rattle.lab_data.specs.Lab.{of_table}
use Rattle.lab_data.proofs.Studying.{no_program}
use Rattle.lab_data.proofs.lab.studied.Goals as goal

pub returns-in-Err-clause-refused : goal.returns-in-Err-clause-refused
returns-in-Err-clause-refused g c =
    let lab = c.args.lab.now in
    no_program (λ acts. of_table (study_table lab.n lab.cap c.args.table lab.machine acts))
    c.args.given.now c.in-Err.fault c.of_program.result c.in-Err.ensures.value c.of_program.ensures.memory
    c.of_program.ensures.other
