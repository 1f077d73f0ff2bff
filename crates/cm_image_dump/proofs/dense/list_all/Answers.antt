use Rattle.std.proofs.Common.{◌≡◌, ◌*◌, ◌+◌, [], ℕ, take, ap, sym, ◌∙◌, arith}
use Rattle.cm_image_dump.specs.Planes.{listings}
use Rattle.cm_image_dump.proofs.Listing.{listings_none}
use Rattle.cm_image_dump.proofs.dense.list_all.Goals as goal

pub loop-k-init : goal.loop-k-init
loop-k-init c = λ some. listings_none c.args.planes.now []

pub loop-k-preserved : goal.loop-k-preserved
loop-k-preserved c = λ some.
    let at : ℕ = c.loop-k.k * 8 in
    let end : at + 8 ≡ (c.loop-k.k + 1) * 8 = omega arith in
    ap (λ (k : ℕ). take (4 * k) c.list_eight.new.listed) (sym end)
    ∙ c.list_eight.ensures.value (λ j h. some (at + j) (omega (arith, h))) (c.loop-k.invariant some)
    ∙ ap (listings c.args.planes.now) end
