use Rattle.std.proofs.Common.{refl}
use Rattle.cm_slots.proofs.Standing.{get_or-zeros}
use Rattle.cm_slots.proofs.Moves.{has_moved}
use Rattle.cm_slots.proofs.tile.Tile.put_down.Goals as goal

pub returns-in-Some : goal.returns-in-Some
returns-in-Some c = record {
  value = has_moved c.args.dims c.args.first.now c.args.self.now _ c.requires.whole c.requires.few c.requires.taken refl
      c.put_over.ensures.wide (λ asleep. absurd (cc asleep)) (λ i h. rw c.in-Some.is (c.put_over.ensures.value i h));
}

pub returns-in-None : goal.returns-in-None
returns-in-None c = record {
  value = has_moved c.args.dims c.args.first.now c.args.self.now _ c.requires.whole c.requires.few c.requires.taken refl
      refl (λ asleep. c.in-None.is) (λ i h. rw c.in-None.is (get_or-zeros 64 i));
}
