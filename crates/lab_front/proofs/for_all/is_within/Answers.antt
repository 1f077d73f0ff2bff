use Rattle.lab_figures.proofs.Texts.{is_within}
use Rattle.lab_front.proofs.for_all.is_within.Goals as goal

pub returns : goal.returns
returns c = record { value = is_within c.args.number c.args.len }
