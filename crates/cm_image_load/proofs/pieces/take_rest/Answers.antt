use Rattle.std.proofs.Common.{◌++◌, [], ℕ, List, ap, sym, ◌∙◌, append_assoc, arith, rules}
use Rattle.std.proofs.lemmas.List.{append-nil, length-append}
use Rattle.std.proofs.lemmas.Result.{err_from_is_err_and}
use Rattle.cm_image_load.proofs.Coming.{consumes_none, consumes_more, stopped_after}
use Rattle.cm_image_load.proofs.pieces.take_rest.Goals as goal

pub loop-taken-init : goal.loop-taken-init
loop-taken-init g c = record {
  came = (
    [],
    c.in-Ok.ensures.value ∙ sym (append-nil c.args.front.now),
    consumes_none (g.I.Source.left c.args.source.now),
    omega arith,
  );
  working = c.requires.working;
}

pub loop-taken-preserved : goal.loop-taken-preserved
loop-taken-preserved g c =
    let before = c.loop-taken.invariant.came in
    let now = c.in_ok-count.ensures.value in
    record {
      came = (
        before.0 ++ now.0,
        now.1 ∙ ap (λ (xs : List ℕ). xs ++ now.0) before.1 ∙ append_assoc c.args.front.now before.0 now.0,
        consumes_more (g.I.Source.left c.args.source.now) (g.I.Source.left c.loop-taken.source)
            (g.I.Source.left c.take_piece.new.source) before.0 now.0 before.2 now.2,
        omega (arith, before.3, now.3, now.4, length-append before.0 now.0),
      );
      working = search rules;
    }

pub returns-in_err-count-clause-refused : goal.returns-in_err-count-clause-refused
returns-in_err-count-clause-refused g c =
    let p = err_from_is_err_and c.from_residual.result c.from_residual.ensures.1 in
    let before = c.loop-taken.invariant.came in
    rw (p.1, p.2)
    (stopped_after c.args.most c.loop-taken.left (g.I.Source.left c.args.source.now) (g.I.Source.left c.loop-taken.source)
    (g.I.Source.left c.take_piece.new.source) before.0 (λ f more. ⊥) (λ f more. ⊥) _ before.3 before.2
    (λ f more never. never) c.in_err-count.ensures.refused)

pub returns-then-count-eq0-clause-value : goal.returns-then-count-eq0-clause-value
returns-then-count-eq0-clause-value g c =
    let before = c.loop-taken.invariant.came in
    let now = c.in_ok-count.ensures.value in
    record {
      bytes = before.0 ++ now.0;
      few = omega (arith, before.3, now.3, now.4, length-append before.0 now.0);
      consumed = consumes_more (g.I.Source.left c.args.source.now) (g.I.Source.left c.loop-taken.source)
          (g.I.Source.left c.take_piece.new.source) before.0 now.0 before.2 now.2;
      end = c.in_ok-count.ensures.end c.if-count-eq0.true;
      so = now.1 ∙ ap (λ (xs : List ℕ). xs ++ now.0) before.1 ∙ append_assoc c.args.front.now before.0 now.0;
    }
