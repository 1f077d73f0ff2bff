use Rattle.std.proofs.Common.{append_assoc}
use Rattle.cm_tools.specs.ChipText.{plane_line}
use Rattle.cm_tools.proofs.texts.push_line.Goals as goal

pub returns : goal.returns
unfolding plane_line
returns c = record {
  ok = rw (
    c.in_ok-push-2.ensures.items,
    c.in_ok-extend_from_slice-3.ensures.items,
    c.plane_digits.ensures.value,
    c.in_ok-push.ensures.items,
    c.in_ok-extend_from_slice-2.ensures.items,
    c.as_bytes.ensures.value,
    c.format.ensures.text,
    c.in_ok-extend_from_slice.ensures.items,
  )
      (simp append_assoc);
}
