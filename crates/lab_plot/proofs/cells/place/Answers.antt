use Rattle.cm_bits.proofs.TextLemmas.{first_place, no_place}
use Rattle.lab_plot.proofs.cells.place.Goals as goal

pub returns-in-Some-clause-place : goal.returns-in-Some-clause-place
returns-in-Some-clause-place c =
    first_place c.args.byte c.in-Some.place c.args.bytes.now c.in-Some.ensures.0 c.in-Some.ensures.1

pub returns-in-None-clause-place : goal.returns-in-None-clause-place
returns-in-None-clause-place c = no_place c.args.byte c.args.bytes.now c.in-None.ensures
