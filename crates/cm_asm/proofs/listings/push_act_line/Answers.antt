use Rattle.std.proofs.Common.{append_assoc}
use Rattle.cm_language.specs.Listing.{act_line}
use Rattle.cm_asm.proofs.listings.push_act_line.Goals as goal

pub returns : goal.returns
unfolding act_line
returns c = record {
  ok = rw (
    c.in_ok-push.ensures.items,
    c.in_ok-extend_from_slice-2.ensures.items,
    c.as_bytes.ensures.value,
    c.format.ensures.text,
    c.in_ok-extend_from_slice.ensures.items,
    c.in_ok-push_act.ensures.ok,
  )
      (simp append_assoc);
}
