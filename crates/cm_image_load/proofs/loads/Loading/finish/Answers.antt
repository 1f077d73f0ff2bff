use Rattle.std.proofs.Common.{◌∙◌, ℕ, sym, ap}
use Rattle.cm_image_format.specs.Header.{Head}
use Rattle.cm_image_format.specs.Reading.{fault_in}
use Rattle.cm_image_fields.specs.Cuts.{header_of}
use Rattle.cm_image_load.proofs.Loading.{with_value, with_fault, left_wrong, left_ended, faulty, not_both}
use Rattle.cm_image_load.proofs.loads.Loading.finish.Goals as goal

pub returns-in-Ok-clause-value : goal.returns-in-Ok-clause-value
returns-in-Ok-clause-value g c =
    let header : Head × ℕ = header_of g.S.Sizes.n g.S.Sizes.cap c.args.self.header in
    with_value c.finished.result _ _
    (λ machine is whole to. left_ended g.S.Sizes.n g.S.Sizes.cap header c.args.first _ _ _ c.args.bytes.now
    c.in-Ok.rest.now whole to c.in-Ok.ensures.ok ∙ is)
    c.finished.ensures.value

pub returns-in-Ok-clause-refused : goal.returns-in-Ok-clause-refused
returns-in-Ok-clause-refused g c =
    let header : Head × ℕ = header_of g.S.Sizes.n g.S.Sizes.cap c.args.self.header in
    with_fault c.finished.result _ _
    (λ fault is m whole to. left_ended g.S.Sizes.n g.S.Sizes.cap header c.args.first _ _ _ c.args.bytes.now
    c.in-Ok.rest.now whole to c.in-Ok.ensures.ok ∙ is m)
    c.finished.ensures.refused

pub returns-in-Ok-clause-otherwise : goal.returns-in-Ok-clause-otherwise
returns-in-Ok-clause-otherwise g c = λ whole to none.
    let header : Head × ℕ = header_of g.S.Sizes.n g.S.Sizes.cap c.args.self.header in
    c.finished.ensures.otherwise
    (ap fault_in (sym (left_ended g.S.Sizes.n g.S.Sizes.cap header c.args.first _ _ _ c.args.bytes.now
    c.in-Ok.rest.now whole to c.in-Ok.ensures.ok)) ∙ none)

pub returns-in-Err-clause-refused : goal.returns-in-Err-clause-refused
returns-in-Err-clause-refused g c = λ m whole to.
    let header : Head × ℕ = header_of g.S.Sizes.n g.S.Sizes.cap c.args.self.header in
    left_wrong g.S.Sizes.n g.S.Sizes.cap header c.args.first _ c.args.bytes.now whole _ to c.in-Err.ensures.refused

pub returns-in-Err-clause-otherwise : goal.returns-in-Err-clause-otherwise
returns-in-Err-clause-otherwise g c = λ whole to none.
    let header : Head × ℕ = header_of g.S.Sizes.n g.S.Sizes.cap c.args.self.header in
    not_both _ _ (faulty g.S.Sizes.n g.S.Sizes.cap whole _
    (left_wrong g.S.Sizes.n g.S.Sizes.cap header c.args.first _ c.args.bytes.now whole _ to
    c.in-Err.ensures.refused)) none
