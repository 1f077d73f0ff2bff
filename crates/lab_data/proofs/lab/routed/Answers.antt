use Rattle.lab_route.specs.Routes.{route_of}
use Rattle.lab_data.specs.Lab.{of_route}
use Rattle.lab_data.proofs.Studying.{no_program}
use Rattle.lab_data.proofs.lab.routed.Goals as goal

pub returns-in-Err-clause-refused : goal.returns-in-Err-clause-refused
returns-in-Err-clause-refused g c =
    let lab = c.args.lab.now in
    no_program (λ acts. of_route (route_of lab.n lab.cap c.args.excerpt c.args.tag lab.machine acts))
    c.args.given.now c.in-Err.fault c.of_program.result c.in-Err.ensures.value c.of_program.ensures.memory
    c.of_program.ensures.other
