use Rattle.std.proofs.Common.{◌≡◌, ◌++◌, ◌∙◌, IfOk, IfErr, IsErrOf, Result, Ok, Err, sym, subst}
use Rattle.cm_image_load.specs.Pieces.{GivesRest}
use Rattle.cm_image_load.specs.declared.pieces.SourceFault.TheVariants as source
use Rattle.cm_array.specs.Sizes.{SizedMachine}
use Rattle.cm_sizes.specs.declared.opening.OpenFault.TheVariants.{Image}
use Rattle.cm_sizes.specs.declared.opening.OpenSourceFault.{OpenSourceFault}
use Rattle.cm_sizes.specs.declared.opening.OpenSourceFault.TheVariants as unopened
use Rattle.cm_sizes.specs.Opening.{image_opened}
use Rattle.cm_sizes.specs.ImageSources.{IsRefusedAs}
use Rattle.cm_sizes.proofs.Sourcing.{held_opens, held_reads, held_refuses, reads_so, rest_so, stopped_so}
use Rattle.cm_sizes.proofs.opening.open_held.Goals as goal

pub returns-in-Ok-clause-value : goal.returns-in-Ok-clause-value
returns-in-Ok-clause-value g c =
    subst (λ (r : Result SizedMachine OpenSourceFault). IfOk r (λ machine. GivesRest c.args.most (g.I.Source.left c.args.source.now)
    (g.I.Source.left c.take_rest.new.source) (λ more. image_opened (c.args.front.now ++ more) ≡ Ok machine)))
    (sym c.of_source.ensures.value)
    (held_opens c.args.front.now c.as_slice.result.now c.args.most (g.I.Source.left c.args.source.now)
    (g.I.Source.left c.take_rest.new.source) c.open_image.result
    (rest_so c.args.most (g.I.Source.left c.args.source.now) (g.I.Source.left c.take_rest.new.source) _ _
    (λ more is. c.as_slice.ensures.value ∙ is) c.in-Ok.ensures.value) c.open_image.ensures.value)

pub returns-in-Ok-clause-refused : goal.returns-in-Ok-clause-refused
returns-in-Ok-clause-refused g c =
    subst (λ (r : Result SizedMachine OpenSourceFault). IfErr r (IsRefusedAs (λ own more. image_opened (c.args.front.now ++ more)
    ≡ Err own) c.args.most (g.I.Source.left c.args.source.now) (g.I.Source.left c.take_rest.new.source)))
    (sym c.of_source.ensures.value)
    (held_refuses c.args.front.now c.as_slice.result.now c.args.most (g.I.Source.left c.args.source.now)
    (g.I.Source.left c.take_rest.new.source) c.open_image.result
    (rest_so c.args.most (g.I.Source.left c.args.source.now) (g.I.Source.left c.take_rest.new.source) _ _
    (λ more is. c.as_slice.ensures.value ∙ is) c.in-Ok.ensures.value) c.open_image.ensures.refused)

pub returns-in-Ok-clause-read : goal.returns-in-Ok-clause-read
returns-in-Ok-clause-read g c = (
  λ h. absurd (let wrong = c.in-Ok.ensures.read.0 h in cc),
  λ is. absurd (held_reads c.open_image.result (subst (λ (r : Result SizedMachine OpenSourceFault).
      IsErrOf r (unopened.Source source.Read)) c.of_source.ensures.value is)),
)

pub returns-in-Err-clause-refused : goal.returns-in-Err-clause-refused
returns-in-Err-clause-refused g c =
    stopped_so c.args.most (g.I.Source.left c.args.source.now) (g.I.Source.left c.take_rest.new.source) (λ own more. ⊥)
    (λ own more. image_opened (c.args.front.now ++ more) ≡ Err (Image own)) c.in-Err.fault (λ own more never. absurd never)
    c.in-Err.ensures.refused

pub returns-in-Err-clause-read : goal.returns-in-Err-clause-read
returns-in-Err-clause-read g c = reads_so _ c.in-Err.fault c.in-Err.ensures.read
