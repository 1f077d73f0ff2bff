use Rattle.std.proofs.Common.{◌≡◌, ◌++◌, ◌∙◌, Ok, Err, ap, sym}
use Rattle.cm_array.specs.Sizes.{SizedMachine}
use Rattle.cm_image_format.specs.Reading.{fault_in}
use Rattle.cm_image_format.specs.Whole.{read_image}
use Rattle.cm_sizes.specs.declared.opening.OpenFault.TheVariants.{Image}
use Rattle.cm_sizes.specs.Opening.{image_opened}
use Rattle.cm_sizes.proofs.Opened.{opened_ok, opened_err}
use Rattle.cm_sizes.proofs.Sourcing.{reads_so, rest_so, stopped_so}
use Rattle.cm_sizes.proofs.opening.machine_behind.Goals as goal

pub returns-in-Ok-clause-value : goal.returns-in-Ok-clause-value
returns-in-Ok-clause-value g c =
    rest_so c.args.most (g.I.Source.left c.args.source.now) (g.I.Source.left c.load_source.new.source) _ _
    (λ more is. opened_ok (c.args.front.now ++ more) g.S.Sizes.n g.S.Sizes.cap c.in-Ok.machine.machine
    (c.shapes_go_on.ensures c.args.front.now more (g.S.Sizes.n, g.S.Sizes.cap) c.requires.shape) c.requires.own is
    ∙ ap (λ (machine : SizedMachine). Ok machine) (sym c.of.ensures.value))
    c.in-Ok.ensures.value

pub returns-in-Err-clause-refused : goal.returns-in-Err-clause-refused
returns-in-Err-clause-refused g c =
    stopped_so c.args.most (g.I.Source.left c.args.source.now) (g.I.Source.left c.load_source.new.source)
    (λ own more. read_image g.S.Sizes.n g.S.Sizes.cap (c.args.front.now ++ more) ≡ Err own)
    (λ own more. image_opened (c.args.front.now ++ more) ≡ Err (Image own)) c.in-Err.fault
    (λ own more is. opened_err (c.args.front.now ++ more) g.S.Sizes.n g.S.Sizes.cap own
    (c.shapes_go_on.ensures c.args.front.now more (g.S.Sizes.n, g.S.Sizes.cap) c.requires.shape) c.requires.own (ap fault_in is))
    c.in-Err.ensures.refused

pub returns-in-Err-clause-read : goal.returns-in-Err-clause-read
returns-in-Err-clause-read g c = reads_so _ c.in-Err.fault c.in-Err.ensures.read
