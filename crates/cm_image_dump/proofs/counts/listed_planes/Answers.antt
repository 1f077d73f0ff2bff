use Rattle.std.proofs.Common.{◌≡◌, ◌<◌, ◌+◌, ◌^◌, ◌==◌, if◌then◌else◌, ℕ}
use Rattle.std.proofs.Common.{List, length, get_or, replicate, sym, ap, ◌∙◌, subst, arith}
use Rattle.std.proofs.lemmas.List.{with_items_is}
use Rattle.cm_model.specs.Array.{Chips, chip_at}
use Rattle.cm_image_format.specs.Whole.{memory_plane_of}
use Rattle.cm_image_dump.proofs.Counting.{AreSoFar, none_counted, row_counted}
use Rattle.cm_image_dump.proofs.counts.listed_planes.Goals as goal

pub loop-at-init : goal.loop-at-init
loop-at-init g c =
    none_counted (2 ^ g.S.Sizes.n) c.args.machine.now.machine.chips c.in-Ok.counts.items
    (c.in-Ok.ensures.items_if_clones_equal (λ y same. same)
    ∙ ap (λ (n : ℕ). replicate n 0) (c.from-chips.ensures ∙ c.chip_count.ensures.value))

pub loop-at-preserved : goal.loop-at-preserved
loop-at-preserved g c =
    let chips : Chips = c.args.machine.now.machine.chips in
    let at : ℕ = c.loop-at.at in
    let counts = c.loop-at.counts in
    let new : List ℕ = c.count_planes.new.counts in
    let lent = c.deref_mut.ensures in
    let before = c.loop-at.invariant in
    let long : length new ≡ length counts.items = omega (arith, c.count_planes.auto.counts, ap length lent.value) in
    let new_is = with_items_is counts new (omega (arith, long, ap length lent.value, lent.len)) in
    let more : (k : ℕ) → k < 2 ^ g.S.Sizes.n
    → get_or new k 0 ≡ get_or counts.items k 0 + (if memory_plane_of (chip_at chips k) at == 0 then 0 else 1) =
    λ k h. c.count_planes.ensures.value k h
    ∙ ap (λ (ns : List ℕ). get_or ns k 0 + (if memory_plane_of (chip_at chips k) at == 0 then 0 else 1)) lent.value in
    subst (λ (ns : List ℕ). AreSoFar (2 ^ g.S.Sizes.n) chips (at + 1) ns) (sym new_is)
    (row_counted (2 ^ g.S.Sizes.n) at chips counts.items new before (long ∙ before.counted.long) more)
