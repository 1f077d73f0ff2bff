use Rattle.std.proofs.Common.{◌≡◌}
use Rattle.cm_bits.specs.Text.{words_left}
use Rattle.lab_front.specs.ForAll.{with_numbers}
use Rattle.lab_front.proofs.for_all.push_values.Given as goal

-- what is left gives what all of it gave at the start
abbrev pub invariant-loop-word : goal.invariant-loop-word
invariant-loop-word l =
    with_numbers l.numbers.items (words_left l.word-iterator) ≡ with_numbers l.fn.numbers.items (words_left l.fn.words)
