use Rattle.lab_meaning.proofs.Standing.{phrases_stand_in_their_program}
use Rattle.lab_meaning.proofs.laws.phrases_stand_in_their_program.Goals as goal

pub returns : goal.returns
returns c = phrases_stand_in_their_program
