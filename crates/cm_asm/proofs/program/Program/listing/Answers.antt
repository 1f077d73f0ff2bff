use Rattle.std.proofs.Common.{refl}
use Rattle.cm_language.specs.Listing.{listing}
use Rattle.cm_asm.proofs.program.Program.listing.Goals as goal

pub returns : goal.returns
unfolding listing
returns c = record {
  value =
      rw (
        ← c.self.view_is,
        c.in_ok-push_acts.ensures.ok,
        c.in_ok-push_fields.ensures.ok,
        c.new-text.ensures.items,
        c.as_slice.ensures.value,
      ) refl;
}
