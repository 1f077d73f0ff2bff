use Rattle.std.proofs.Common.{ℕ, ap, arith, refl}
use Rattle.cm_model.specs.Machine.{Machine}
use Rattle.cm_image_format.specs.Header.{Head}
use Rattle.cm_image_fields.specs.Cuts.{header_of}
use Rattle.cm_image_load.proofs.Loading.{faulty, nothing, of_whole, with_value, with_fault}
use Rattle.cm_image_load.proofs.loads.load_of.Goals as goal

pub finish-requires : goal.finish-requires
finish-requires g c =
    let begun = c.in-Ok.ensures.begun in
    let header : Head × ℕ = header_of g.S.Sizes.n g.S.Sizes.cap c.in-Ok.loading.header in
    record {
      dimension = c.in-Ok.ensures.dimension refl;
      first = omega arith;
      waiting = rw c.in-Ok.ensures.none (omega arith);
      blank = nothing g.S.Sizes.n header.1 c.in-Ok.loading.builder c.in-Ok.loading.waiting
          c.in-Ok.ensures.none begun.blank;
      clock = ap (λ (m : Machine). m.clock) begun.blank;
    }

pub returns-in-Ok-clause-value : goal.returns-in-Ok-clause-value
returns-in-Ok-clause-value g c =
    let header : Head × ℕ = header_of g.S.Sizes.n g.S.Sizes.cap c.in-Ok.loading.header in
    with_value c.finish.result _ _
    (λ machine told. told c.args.bytes.now
    (of_whole g.S.Sizes.n g.S.Sizes.cap header c.args.bytes.now c.in-Ok.chips.now
    c.in-Ok.loading.builder c.in-Ok.loading.waiting c.in-Ok.ensures.begun
    c.in-Ok.ensures.none))
    c.finish.ensures.value

pub returns-in-Ok-clause-header : goal.returns-in-Ok-clause-header
returns-in-Ok-clause-header g c = rw c.in-Ok.ensures.begun.header_is tt

pub returns-in-Ok-clause-refused : goal.returns-in-Ok-clause-refused
returns-in-Ok-clause-refused g c =
    let header : Head × ℕ = header_of g.S.Sizes.n g.S.Sizes.cap c.in-Ok.loading.header in
    with_fault c.finish.result _ _
    (λ fault told m. faulty g.S.Sizes.n g.S.Sizes.cap c.args.bytes.now fault (told m c.args.bytes.now
    (of_whole g.S.Sizes.n g.S.Sizes.cap header c.args.bytes.now c.in-Ok.chips.now
    c.in-Ok.loading.builder c.in-Ok.loading.waiting c.in-Ok.ensures.begun
    c.in-Ok.ensures.none)))
    c.finish.ensures.refused

pub returns-in-Ok-clause-otherwise : goal.returns-in-Ok-clause-otherwise
returns-in-Ok-clause-otherwise g c = λ none.
    let header : Head × ℕ = header_of g.S.Sizes.n g.S.Sizes.cap c.in-Ok.loading.header in
    c.finish.ensures.otherwise c.args.bytes.now
    (of_whole g.S.Sizes.n g.S.Sizes.cap header c.args.bytes.now c.in-Ok.chips.now
    c.in-Ok.loading.builder c.in-Ok.loading.waiting c.in-Ok.ensures.begun
    c.in-Ok.ensures.none) none
