use Rattle.std.proofs.Common.{◌≡◌, ◌+◌, ◌^◌, ℕ, List, refl, sym, subst}
use Rattle.cm_model.specs.Array.{chip_at}
use Rattle.cm_image_dump.specs.Planes.{AreInUse}
use Rattle.cm_image_dump.proofs.Counting.{no_plane}
use Rattle.cm_image_dump.proofs.Dumping.{in_use_past, in_use_more}
use Rattle.cm_image_dump.proofs.counts.push_in_use.Goals as goal

pub returns-then-not-is_in_use : goal.returns-then-not-is_in_use
returns-then-not-is_in_use g c =
    let chips = c.args.machine.now.machine.chips in
    let number_is : c.unwrap.result ≡ c.args.at = rw c.unwrap.ensures at c.new.ensures.value in
    record {
      ok = in_use_past (2 ^ g.S.Sizes.n) c.args.at chips c.args.used.now.items c.requires.in_use
          (λ k h. no_plane (chip_at chips k) c.unwrap.result c.args.at (c.if-not-is_in_use.ensures.blank refl k h)
          number_is);
    }

pub returns : goal.returns
returns g c =
    let chips = c.args.machine.now.machine.chips in
    record {
      ok = subst (λ (used : List ℕ). AreInUse (2 ^ g.S.Sizes.n) chips (c.args.at + 1) used) (sym c.in-Ok.ensures.items)
          (in_use_more (2 ^ g.S.Sizes.n) c.args.at chips c.args.used.now.items c.requires.in_use);
    }
