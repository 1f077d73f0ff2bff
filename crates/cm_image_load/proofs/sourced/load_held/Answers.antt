use Rattle.std.proofs.Common.{ℕ, List, sym, ap, ◌∙◌}
use Rattle.std.proofs.lemmas.Result.{err_from_is_err_and}
use Rattle.cm_image_format.specs.Whole.{read_image}
use Rattle.cm_image_load.proofs.Coming.{rest_so, stopped_so, gives_at_most, is_fault}
use Rattle.cm_image_load.proofs.sourced.load_held.Goals as goal

pub returns-in_err-bytes-clause-refused : goal.returns-in_err-bytes-clause-refused
returns-in_err-bytes-clause-refused g c =
    let p = err_from_is_err_and c.from_residual.result c.from_residual.ensures.1 in
    rw (p.1, p.2)
    (stopped_so c.args.most (g.I.Source.left c.args.source.now) (g.I.Source.left c.take_rest.new.source)
    (λ f more. ⊥) _ _ (λ f more never. absurd never) c.in_err-bytes.ensures.refused)

pub returns-in-Ok-clause-value : goal.returns-in-Ok-clause-value
returns-in-Ok-clause-value g c =
    rest_so c.args.most (g.I.Source.left c.args.source.now) (g.I.Source.left c.take_rest.new.source) _ _
    (λ more is. ap (λ (xs : List ℕ). read_image g.S.Sizes.n g.S.Sizes.cap xs) (sym (c.deref.ensures.value ∙ is))
    ∙ c.in-Ok.ensures.value)
    c.in_ok-bytes.ensures.value

pub returns-clause-refused : goal.returns-clause-refused
returns-clause-refused g c = (
  gives_at_most c.args.most (g.I.Source.left c.args.source.now) (g.I.Source.left c.take_rest.new.source) _
      c.in_ok-bytes.ensures.value,
  λ other. rest_so c.args.most (g.I.Source.left c.args.source.now) (g.I.Source.left c.take_rest.new.source) _ _
      (λ more is. ap (λ (xs : List ℕ). read_image g.S.Sizes.n g.S.Sizes.cap xs) (sym (c.deref.ensures.value ∙ is))
      ∙ is_fault (read_image g.S.Sizes.n g.S.Sizes.cap c.deref.result.now) c.in-Err.fault (c.in-Err.ensures.refused other))
      c.in_ok-bytes.ensures.value,
)
