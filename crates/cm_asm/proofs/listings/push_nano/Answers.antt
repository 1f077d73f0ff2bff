use Rattle.std.proofs.Common.{append_assoc}
use Rattle.cm_asm.proofs.listings.push_nano.Goals as goal

pub returns : goal.returns
returns c = record {
  ok = rw (
    c.in_ok-push.ensures.items,
    c.direction_letter.ensures,
    c.in_ok-push_table-2.ensures.ok,
    c.in_ok-push_table.ensures.ok,
    c.in_ok-push_sense.ensures.ok,
    c.in_ok-push_flag-3.ensures.ok,
    c.in_ok-push_flag-2.ensures.ok,
    c.in_ok-push_flag.ensures.ok,
    c.in_ok-push_address-2.ensures.ok,
    c.in_ok-push_address.ensures.ok,
    c.in_ok-extend_from_slice.ensures.items,
  )
      (simp append_assoc);
}
