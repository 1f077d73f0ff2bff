use Rattle.std.proofs.Common.{append_assoc}
use Rattle.cm_language.specs.Listing.{field_line}
use Rattle.cm_asm.proofs.listings.push_field.Goals as goal

pub returns : goal.returns
unfolding field_line
returns c = record {
  ok = rw (
    c.in_ok-push-2.ensures.items,
    c.in_ok-extend_from_slice-3.ensures.items,
    c.as_bytes.ensures.value,
    c.format.ensures.text,
    c.len.ensures.value,
    c.in_ok-push_number.ensures.ok,
    c.at.ensures.value,
    c.in_ok-push.ensures.items,
    c.in_ok-extend_from_slice-2.ensures.items,
    c.in_ok-extend_from_slice.ensures.items,
  )
      (simp append_assoc);
}
