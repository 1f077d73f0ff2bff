use Rattle.std.proofs.Common.{◌++◌, ℕ, List, get_or, sym, ap, ◌∙◌, arith}
use Rattle.cm_image_dump.specs.Planes.{listings, plane_listing}
use Rattle.cm_image_dump.proofs.Dumping.{grown}
use Rattle.cm_image_dump.proofs.Listing.{listings_none, listings_step}
use Rattle.cm_image_dump.proofs.dense.push_some.Goals as goal

pub loop-at-init : goal.loop-at-init
loop-at-init c = record {
  text = listings_none c.args.planes.now c.args.text.now.items;
  capacity = omega arith;
  grows = omega arith;
}

pub loop-at-preserved : goal.loop-at-preserved
loop-at-preserved c =
    let planes : List ℕ = c.args.planes.now in
    let at : ℕ = c.loop-at.at in
    record {
      text = grown c.args.text.now.items (listings planes at) (plane_listing at (get_or planes c.from.result 0)) _ _
          c.loop-at.invariant.text c.in_ok-push_plane.ensures.ok
          ∙ ap (λ (xs : List ℕ). c.args.text.now.items ++ xs)
          (ap (λ (k : ℕ). listings planes at ++ plane_listing at (get_or planes k 0)) c.from.ensures
          ∙ sym (listings_step planes at));
      capacity = omega (arith, c.loop-at.invariant.capacity, c.push_plane.ensures.capacity);
      grows = omega (arith, c.loop-at.invariant.grows, c.in_ok-push_plane.ensures.grows);
    }
