use Rattle.std.proofs.Common.{◌≡◌, ◌++◌, None}
use Rattle.std.specs.List.{after_first}
use Rattle.cm_bits.specs.Text.{words_left, words_of}
use Rattle.lab_plot.specs.Cells.{cell, is_colon}
use Rattle.lab_route_plot.specs.Legs.{legs_from}
use Rattle.lab_route_plot.proofs.legs.push_chips.Given as goal

-- the words that are left give what all of them gave at the start
abbrev pub invariant-loop-word : goal.invariant-loop-word
invariant-loop-word l = l.legs.items ++ legs_from l.cycle l.line l.from (words_left l.word-iterator)
    ≡ l.initial.legs.items ++ legs_from l.cycle l.line None (words_of (after_first is_colon (cell l.line 0)))
