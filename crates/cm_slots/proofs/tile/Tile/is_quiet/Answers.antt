use Rattle.std.proofs.Common.{refl}
use Rattle.cm_slots.proofs.tile.Tile.is_quiet.Goals as goal

pub returns-then-not-self : goal.returns-then-not-self
returns-then-not-self c = record {
  none = (λ yes i h. (c.requires.whole.quiet c.if-not-self.true i h).each 0, λ blank. rw c.if-not-self.true refl);
}
