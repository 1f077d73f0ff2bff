use Rattle.std.proofs.Common.{Ok, ap, sym, ◌∙◌}
use Rattle.cm_array.specs.Sizes.{SizedMachine}
use Rattle.cm_sizes.proofs.Opened.{opened_ok, unopened}
use Rattle.cm_sizes.proofs.opening.machine_of.Goals as goal

pub returns-in-Ok-clause-value : goal.returns-in-Ok-clause-value
returns-in-Ok-clause-value g c =
    opened_ok c.args.image.now g.S.Sizes.n g.S.Sizes.cap c.in-Ok.machine.machine c.requires.shape c.requires.own
    c.in-Ok.ensures.value
    ∙ ap (λ (machine : SizedMachine). Ok machine) (sym c.of.ensures.value)

pub returns-in-Err-clause-refused : goal.returns-in-Err-clause-refused
returns-in-Err-clause-refused g c =
    unopened _ c.args.image.now g.S.Sizes.n g.S.Sizes.cap c.in-Err.fault c.requires.shape c.requires.own
    c.in-Err.ensures.header (λ other. let read = c.in-Err.ensures.refused other in cc)
