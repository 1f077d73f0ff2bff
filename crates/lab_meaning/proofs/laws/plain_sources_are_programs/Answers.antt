use Rattle.lab_meaning.proofs.PlainSources.{plain_sources_are_programs}
use Rattle.lab_meaning.proofs.laws.plain_sources_are_programs.Goals as goal

pub returns : goal.returns
returns c = plain_sources_are_programs
