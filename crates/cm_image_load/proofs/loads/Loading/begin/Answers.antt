use Rattle.std.proofs.Common.{◌≡◌, ℕ, Ok, refl, ap}
use Rattle.std.proofs.lemmas.Result.{err_from_is_err_and}
use Rattle.cm_model.specs.Machine.{Machine, blank_machine}
use Rattle.cm_image_format.specs.Header.{Head, header_part}
use Rattle.cm_image_fields.specs.Cuts.{header_of}
use Rattle.cm_image_load.proofs.Loading.{header_wrong, routing_wrong, faulty, not_both, begun}
use Rattle.cm_image_load.proofs.loads.Loading.begin.Goals as goal

pub returns-in_err-header-clause-refused : goal.returns-in_err-header-clause-refused
returns-in_err-header-clause-refused g c =
    let p = err_from_is_err_and c.from_residual.result c.from_residual.ensures.1 in
    rw (p.1, p.2) (λ m. faulty g.S.Sizes.n g.S.Sizes.cap c.args.bytes.now _
    (header_wrong g.S.Sizes.n g.S.Sizes.cap c.args.bytes.now _ c.in_err-header.ensures.value))

pub returns-in_err-header-clause-otherwise : goal.returns-in_err-header-clause-otherwise
returns-in_err-header-clause-otherwise g c = λ none.
    not_both _ _ (faulty g.S.Sizes.n g.S.Sizes.cap c.args.bytes.now _
    (header_wrong g.S.Sizes.n g.S.Sizes.cap c.args.bytes.now _ c.in_err-header.ensures.value)) none

pub take_routing-requires : goal.take_routing-requires
unfolding blank_machine
take_routing-requires g c = record {
  dimension = (c.in_ok-header.ensures.sizes refl).dimension;
  plain = ap (λ (m : Machine). m.routing) c.in-Ok-start_of.ensures.value;
}

pub returns-in-Ok-take_routing-clause-begun : goal.returns-in-Ok-take_routing-clause-begun
returns-in-Ok-take_routing-clause-begun g c =
    let header : Head × ℕ = header_of g.S.Sizes.n g.S.Sizes.cap c.in_ok-header.header in
    let is : header_part g.S.Sizes.n g.S.Sizes.cap c.args.bytes.now ≡ Ok (header, c.in_ok-header.behind.now) =
    cc (c.in_ok-header.ensures.value) in
    begun g.S.Sizes.n g.S.Sizes.cap header c.args.bytes.now c.in_ok-header.behind.now c.in-Ok-take_routing.chips.now
    c.in-Ok-start_of.builder c.take_routing.new.builder is c.in-Ok-start_of.ensures.value
    c.in-Ok-take_routing.ensures.ok

pub returns-in-Ok-take_routing-clause-dimension : goal.returns-in-Ok-take_routing-clause-dimension
returns-in-Ok-take_routing-clause-dimension g c = λ _. (c.in_ok-header.ensures.sizes refl).dimension

pub returns-clause-refused : goal.returns-clause-refused
returns-clause-refused g c = λ m.
    let header : Head × ℕ = header_of g.S.Sizes.n g.S.Sizes.cap c.in_ok-header.header in
    let is : header_part g.S.Sizes.n g.S.Sizes.cap c.args.bytes.now ≡ Ok (header, c.in_ok-header.behind.now) =
    cc (c.in_ok-header.ensures.value) in
    faulty g.S.Sizes.n g.S.Sizes.cap c.args.bytes.now _
    (routing_wrong g.S.Sizes.n g.S.Sizes.cap header c.args.bytes.now c.in_ok-header.behind.now _ is
    c.in-Err.ensures.refused)

pub returns-clause-otherwise : goal.returns-clause-otherwise
returns-clause-otherwise g c = λ none.
    let header : Head × ℕ = header_of g.S.Sizes.n g.S.Sizes.cap c.in_ok-header.header in
    let is : header_part g.S.Sizes.n g.S.Sizes.cap c.args.bytes.now ≡ Ok (header, c.in_ok-header.behind.now) =
    cc (c.in_ok-header.ensures.value) in
    not_both _ _ (faulty g.S.Sizes.n g.S.Sizes.cap c.args.bytes.now _
    (routing_wrong g.S.Sizes.n g.S.Sizes.cap header c.args.bytes.now c.in_ok-header.behind.now _ is
    c.in-Err.ensures.refused)) none
