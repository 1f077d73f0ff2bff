use Rattle.std.proofs.Common.{ℕ, List, sym, subst}
use Rattle.std.proofs.lemmas.Result.{err_from_is_err_and}
use Rattle.cm_model.specs.Machine.{Machine}
use Rattle.cm_image_format.specs.Header.{Head}
use Rattle.cm_image_fields.specs.declared.header.Header.{Header}
use Rattle.cm_image_fields.specs.Cuts.{header_of}
use Rattle.cm_image_load.specs.Chips.{IsReadTo}
use Rattle.cm_image_load.specs.WaitingChips.{with_waiting}
use Rattle.cm_image_load.proofs.Coming.{rest_so, stopped_so, gives_at_most}
use Rattle.cm_image_load.proofs.loads.Loading.load_chips.Goals as goal

pub returns-in_err-next-clause-refused : goal.returns-in_err-next-clause-refused
returns-in_err-next-clause-refused g c =
    let p = err_from_is_err_and c.from_residual.result c.from_residual.ensures.1 in
    rw (p.1, p.2)
    (stopped_so c.args.most (g.I.Source.left c.args.source.now) (g.I.Source.left c.take_pieces.new.source)
    (λ f more. ⊥) _ _ (λ f more never. absurd never) c.in_err-next.ensures.refused)

pub returns-in-Ok-clause-value : goal.returns-in-Ok-clause-value
returns-in-Ok-clause-value g c =
    let header : Head × ℕ = header_of g.S.Sizes.n g.S.Sizes.cap c.args.self.header in
    let machine : Machine = with_waiting c.in_ok-next.next c.take_pieces.new.self.builder c.take_pieces.new.self.waiting in
    rest_so c.args.most (g.I.Source.left c.args.source.now) (g.I.Source.left c.take_pieces.new.source) _ _
    (λ more reads whole to. c.in-Ok.ensures.value whole
    (subst (λ (h : Header). IsReadTo g.S.Sizes.n g.S.Sizes.cap (header_of g.S.Sizes.n g.S.Sizes.cap h) c.in_ok-next.next machine
    c.deref.result.now whole) (sym c.take_pieces.ensures.header)
    (subst (λ (r : List ℕ). IsReadTo g.S.Sizes.n g.S.Sizes.cap header c.in_ok-next.next machine r whole)
    (sym c.deref.ensures.value) (reads whole to))))
    c.in_ok-next.ensures.value

pub returns-clause-refused : goal.returns-clause-refused
returns-clause-refused g c =
    let header : Head × ℕ = header_of g.S.Sizes.n g.S.Sizes.cap c.args.self.header in
    let machine : Machine = with_waiting c.in_ok-next.next c.take_pieces.new.self.builder c.take_pieces.new.self.waiting in (
      gives_at_most c.args.most (g.I.Source.left c.args.source.now) (g.I.Source.left c.take_pieces.new.source) _
          c.in_ok-next.ensures.value,
      λ other. rest_so c.args.most (g.I.Source.left c.args.source.now) (g.I.Source.left c.take_pieces.new.source) _ _
          (λ more reads whole to. c.in-Err.ensures.refused other whole
          (subst (λ (h : Header). IsReadTo g.S.Sizes.n g.S.Sizes.cap (header_of g.S.Sizes.n g.S.Sizes.cap h) c.in_ok-next.next machine
          c.deref.result.now whole) (sym c.take_pieces.ensures.header)
          (subst (λ (r : List ℕ). IsReadTo g.S.Sizes.n g.S.Sizes.cap header c.in_ok-next.next machine r whole)
          (sym c.deref.ensures.value) (reads whole to))))
          c.in_ok-next.ensures.value,
    )
