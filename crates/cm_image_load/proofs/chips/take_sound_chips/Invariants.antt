use Rattle.std.proofs.Common.{◌≡◌, ◌≤◌, false, length}
use Rattle.cm_image_load.specs.Taken.{AreTakenIn}
use Rattle.cm_image_load.specs.WaitingChips.{with_waiting}
use Rattle.cm_image_load.proofs.chips.take_sound_chips.Given as goal

-- the chips so far are taken in of the bytes that came
abbrev pub invariant-loop-chip : goal.invariant-loop-chip
invariant-loop-chip g l = record {
  waiting : length l.waiting ≤ l.chip;
  clock : l.builder.clock ≡ l.clock;
  working : g.I.Source.has_failed l.source ≡ false;
  taken : AreTakenIn g.S.Sizes.n g.S.Sizes.cap l.clock l.chip l.initial.builder (with_waiting l.chip l.builder l.waiting)
      l.initial.window l.window (g.I.Source.left l.initial.source) (g.I.Source.left l.source) l.most l.left;
}
