use borrow.Rule.Slice.PartMut.{post_of}
use Rattle.std.proofs.Common.{◌≡◌, ◌≤◌, ◌+◌, ◌-◌, ◌++◌, ℕ, List, length, take, drop, ap, ◌∙◌, subst, sym, arith}
use Rattle.std.proofs.lemmas.List.{length-append, length-drop, length-take-le, with_items_is}
use Rattle.cm_image_load.specs.Pieces.{between}
use Rattle.cm_image_load.proofs.Coming.{between_read}
use Rattle.cm_image_load.proofs.pieces.Window.read.Goals as goal

pub returns-clause-value : goal.returns-clause-value
returns-clause-value g c =
    let from : ℕ = c.self.inside.from in
    let to : ℕ = c.self.inside.to in
    let held : List ℕ = c.deref_mut.result.now in
    let within : to ≤ length held =
    subst (λ (xs : List ℕ). to ≤ length xs) (sym c.deref_mut.ensures.value) c.self.invariant.1 in
    let few : c.in-Ok.count ≤ length c.read.new.buf = c.in-Ok.ensures.bound.0 in
    let behind : List ℕ = post_of to (length held - to) held in
    let size : length (take to held ++ (c.read.new.buf ++ behind)) ≡ c.self.inside.bytes.len =
    omega (
      arith,
      length-append (take to held) (c.read.new.buf ++ behind),
      length-append c.read.new.buf behind,
      length-take-le to held within,
      length-drop (length held - to) (drop to held),
      length-drop to held,
      c.read.auto.buf,
      ap length c.deref_mut.ensures.value,
      c.self.inside.bytes.ok.0,
    ) in
    let is = with_items_is c.self.inside.bytes (take to held ++ (c.read.new.buf ++ behind)) size in (
      take c.in-Ok.count c.read.new.buf,
      (λ i. between from (to + c.in-Ok.count) (is i))
          ∙ between_read from to c.in-Ok.count held c.read.new.buf behind c.args.self.now c.self.invariant.0 within few
          (ap (λ (xs : List ℕ). between from to xs) c.deref_mut.ensures.value ∙ c.self.view_is),
      c.in-Ok.ensures.bytes.0,
      length-take-le c.in-Ok.count c.read.new.buf few,
      omega (arith, c.if-count-most.false),
    )
