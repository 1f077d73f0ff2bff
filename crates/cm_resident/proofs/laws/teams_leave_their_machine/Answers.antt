use Rattle.cm_resident.proofs.Ending.{teams_leave_their_machine}
use Rattle.cm_resident.proofs.laws.teams_leave_their_machine.Goals as goal

pub returns : goal.returns
returns c = teams_leave_their_machine
