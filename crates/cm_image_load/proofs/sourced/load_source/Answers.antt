use Rattle.std.proofs.Common.{◌++◌, ℕ, sym, ap, subst, refl}
use Rattle.cm_model.specs.Machine.{Machine}
use Rattle.cm_image_format.specs.Header.{Head}
use Rattle.cm_image_fields.specs.Cuts.{header_of}
use Rattle.cm_image_load.specs.Chips.{IsBlankFrom}
use Rattle.cm_image_load.proofs.Building.{blank_from-blank_at}
use Rattle.cm_image_load.proofs.Coming.{ok_so, err_so, rest_so, stopped_so, begun_on, begun_few}
use Rattle.cm_image_load.proofs.sourced.load_source.Goals as goal

pub load_chips-requires : goal.load_chips-requires
load_chips-requires g c =
    let header : Head × ℕ = header_of g.S.Sizes.n g.S.Sizes.cap c.in-Ok.loading.header in
    let machine : Machine = c.in-Ok.loading.builder in
    let begun = c.in-Ok.ensures.begun in record {
      few = begun_few g.S.Sizes.n g.S.Sizes.cap 65536 header c.args.front.now c.in-Ok.chips.now machine begun
          c.requires.few;
      dimension = c.in-Ok.ensures.dimension refl;
      none = c.in-Ok.ensures.none;
      blank = subst (λ (m : Machine). IsBlankFrom g.S.Sizes.n 0 m) (sym begun.blank)
          (blank_from-blank_at g.S.Sizes.n header.1 machine.routing);
      clock = ap (λ (m : Machine). m.clock) begun.blank;
      working = c.requires.working;
    }

pub returns-in-Ok-clause-value : goal.returns-in-Ok-clause-value
returns-in-Ok-clause-value g c =
    let header : Head × ℕ = header_of g.S.Sizes.n g.S.Sizes.cap c.in-Ok.loading.header in
    ok_so c.load_chips.result _ _
    (λ kept given. rest_so c.args.most (g.I.Source.left c.args.source.now) (g.I.Source.left c.load_chips.new.source) _ _
    (λ more told. told (c.args.front.now ++ more)
    (begun_on g.S.Sizes.n g.S.Sizes.cap header c.args.front.now c.in-Ok.chips.now more c.in-Ok.loading.builder
    c.in-Ok.ensures.begun))
    given)
    c.load_chips.ensures.value

pub returns-in-Ok-clause-refused : goal.returns-in-Ok-clause-refused
returns-in-Ok-clause-refused g c =
    let header : Head × ℕ = header_of g.S.Sizes.n g.S.Sizes.cap c.in-Ok.loading.header in
    err_so c.load_chips.result _ _
    (λ fault stopped. stopped_so c.args.most (g.I.Source.left c.args.source.now)
    (g.I.Source.left c.load_chips.new.source) _ _ fault
    (λ own more told. told (c.args.front.now ++ more)
    (begun_on g.S.Sizes.n g.S.Sizes.cap header c.args.front.now c.in-Ok.chips.now more c.in-Ok.loading.builder
    c.in-Ok.ensures.begun))
    stopped)
    c.load_chips.ensures.refused
