use Rattle.std.proofs.Common.{◌++◌, ◌∙◌, ℕ, List, sym, ap, subst}
use Rattle.std.proofs.lemmas.Result.{err_from_is_err_and}
use Rattle.cm_model.specs.Machine.{Machine}
use Rattle.cm_image_format.specs.Header.{Head}
use Rattle.cm_image_fields.specs.Cuts.{header_of}
use Rattle.cm_image_load.specs.Chips.{IsReadTo}
use Rattle.cm_image_load.specs.WaitingChips.{with_waiting}
use Rattle.cm_image_load.proofs.Coming.{first_blank, first_to, rest_so, rest_after, stopped_after, gives_none, wants_memory, left_of}
use Rattle.cm_image_load.proofs.loads.Loading.take_pieces.Goals as goal

pub returns-in_err-all-clause-refused : goal.returns-in_err-all-clause-refused
returns-in_err-all-clause-refused g c =
    let p = err_from_is_err_and c.from_residual.result c.from_residual.ensures.1 in
    rw (p.1, p.2) c.in_err-all.ensures.refused

pub returns-then-not-lists_some-clause-value : goal.returns-then-not-lists_some-clause-value
returns-then-not-lists_some-clause-value g c =
    let header : Head × ℕ = header_of g.S.Sizes.n g.S.Sizes.cap c.args.self.now.header in
    rest_so c.args.most (g.I.Source.left c.args.source.now) (g.I.Source.left c.take_rest.new.source) _ _
    (λ more is whole to.
    first_to g.S.Sizes.n g.S.Sizes.cap header c.args.self.now.builder c.args.self.now.waiting c.in_ok-all.all.items
    (c.args.chips.now ++ more) whole c.requires.none is to)
    c.in_ok-all.ensures.value

pub returns-then-not-lists_some-clause-blank : goal.returns-then-not-lists_some-clause-blank
returns-then-not-lists_some-clause-blank g c =
    first_blank g.S.Sizes.n c.args.self.now.builder c.args.self.now.waiting c.requires.none c.requires.blank

pub returns-in_err-window-clause-refused : goal.returns-in_err-window-clause-refused
returns-in_err-window-clause-refused g c =
    let p = err_from_is_err_and c.from_residual-in_err-window.result c.from_residual-in_err-window.ensures.1 in
    rw (p.1, p.2, c.in_err-window.ensures.refused)
    (wants_memory c.args.most (g.I.Source.left c.args.source.now) (g.I.Source.left c.args.source.now)
    (λ fault more. ⊥) (gives_none c.args.most (g.I.Source.left c.args.source.now)))

pub returns-in_err-bytes-clause-refused : goal.returns-in_err-bytes-clause-refused
returns-in_err-bytes-clause-refused g c =
    let p = err_from_is_err_and c.from_residual-in_err-bytes.result c.from_residual-in_err-bytes.ensures.1 in
    let taken = c.in_ok-next.ensures.value in
    rw (p.1, p.2)
    (stopped_after c.args.most c.in_ok-next.left (g.I.Source.left c.args.source.now)
    (g.I.Source.left c.take_sound_chips.new.source) (g.I.Source.left c.take_rest-2.new.source) taken.came
    (λ f more. ⊥) (λ f more. ⊥) _ taken.few taken.consumed (λ f more never. never) c.in_err-bytes.ensures.refused)

pub returns-clause-value : goal.returns-clause-value
returns-clause-value g c =
    let header : Head × ℕ = header_of g.S.Sizes.n g.S.Sizes.cap c.args.self.now.header in
    let machine : Machine =
    with_waiting c.in_ok-next.next c.take_sound_chips.new.builder c.take_sound_chips.new.waiting in
    let taken = c.in_ok-next.ensures.value in
    rest_after c.args.most c.in_ok-next.left (g.I.Source.left c.args.source.now)
    (g.I.Source.left c.take_sound_chips.new.source) (g.I.Source.left c.take_rest-2.new.source) taken.came _ _ taken.few
    taken.consumed
    (λ more is whole to.
    subst (λ (r : List ℕ). IsReadTo g.S.Sizes.n g.S.Sizes.cap header c.in_ok-next.next machine r whole)
    (sym (is ∙ ap (λ (r : List ℕ). r ++ more) c.rest.ensures.value))
    (left_of g.S.Sizes.n g.S.Sizes.cap header c.in_ok-next.next c.args.most c.in_ok-next.left c.args.self.now.builder machine
    c.in_ok-window.window c.take_sound_chips.new.window more whole (g.I.Source.left c.args.source.now)
    (g.I.Source.left c.take_sound_chips.new.source) taken
    (subst (λ (r : List ℕ). IsReadTo g.S.Sizes.n g.S.Sizes.cap header 0 c.args.self.now.builder (r ++ (taken.came ++ more)) whole)
    (sym c.in_ok-window.ensures.value) to)))
    c.in_ok-bytes.ensures.value
