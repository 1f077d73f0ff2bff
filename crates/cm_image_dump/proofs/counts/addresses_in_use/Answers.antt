use Rattle.std.proofs.Common.{◌^◌, ℕ, List, sym, subst}
use Rattle.cm_image_dump.specs.Planes.{AreInUse}
use Rattle.cm_image_dump.proofs.Dumping.{none_in_use}
use Rattle.cm_image_dump.proofs.counts.addresses_in_use.Goals as goal

pub loop-at-init : goal.loop-at-init
loop-at-init g c =
    let chips = c.args.machine.now.machine.chips in
    subst (λ (used : List ℕ). AreInUse (2 ^ g.S.Sizes.n) chips 0 used) (sym c.new-used.ensures.items)
    (none_in_use (2 ^ g.S.Sizes.n) chips)
