use Rattle.std.proofs.Common.{refl}
use Rattle.cm_tools.specs.ChipText.{chip_session_text}
use Rattle.cm_tools.proofs.texts.chip_text.Goals as goal

pub returns : goal.returns
unfolding chip_session_text
returns c = record {
  value =
      rw (c.in_ok-push_memory.ensures.ok, c.in_ok-push_flags.ensures.ok, c.new-text.ensures.items) refl;
}
