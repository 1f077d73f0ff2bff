use Rattle.std.proofs.Common.{ℕ, ◌++◌, get_or, refl, sym, ap, ◌∙◌, arith}
use Rattle.std.proofs.lemmas.List.{append-nil}
use Rattle.cm_image_dump.specs.Planes.{plane_listing, listing_at}
use Rattle.cm_image_dump.proofs.Dumping.{items_more}
use Rattle.cm_image_dump.proofs.dumps.push_planes.Goals as goal

pub loop-at-init : goal.loop-at-init
loop-at-init c = record {
  text = sym (append-nil c.args.text.now.items);
  capacity = omega arith;
  grows = omega arith;
}

pub memory_plane-requires : goal.memory_plane-requires
memory_plane-requires c = record { address = c.requires.within c.loop-at.at-index c.loop-at-test.true }

pub loop-at-preserved : goal.loop-at-preserved
loop-at-preserved c =
    let at : ℕ = get_or c.args.addresses.now c.loop-at.at-index 0 in
    record {
      text = items_more (listing_at c.args.chip.now) c.args.addresses.now c.args.text.now.items _ _ c.loop-at.at-index
          at 0 c.loop-at-test.true refl c.loop-at.invariant.text
          (c.in_ok-push_plane.ensures.ok
          ∙ ap (λ (n : ℕ). c.loop-at.text.items ++ plane_listing at n) c.memory_plane.ensures.value);
      capacity = omega (arith, c.loop-at.invariant.capacity, c.push_plane.ensures.capacity);
      grows = omega (arith, c.loop-at.invariant.grows, c.in_ok-push_plane.ensures.grows);
    }
