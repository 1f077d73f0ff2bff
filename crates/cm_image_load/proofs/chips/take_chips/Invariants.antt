use Rattle.std.proofs.Common.{◌≡◌, ◌≤◌, length}
use Rattle.cm_image_load.specs.Chips.{IsBlankFrom, chips_onto}
use Rattle.cm_image_load.specs.WaitingChips.{with_waiting}
use Rattle.cm_image_load.proofs.chips.take_chips.Given as goal

-- the loop from here on gives what it gave at the start, and the chips from here on are blank
abbrev pub invariant-loop-chip : goal.invariant-loop-chip
invariant-loop-chip g l = record {
  waiting : length l.waiting ≤ l.chip;
  blank : IsBlankFrom g.S.Sizes.n l.chip (with_waiting l.chip l.builder l.waiting);
  clock : l.builder.clock ≡ l.clock;
  same : chips_onto g.S.Sizes.n g.S.Sizes.cap l.clock l.chip (with_waiting l.chip l.builder l.waiting) l.rest
      ≡ chips_onto g.S.Sizes.n g.S.Sizes.cap l.clock l.first (with_waiting l.first l.initial.builder l.initial.waiting) l.initial.rest;
}
