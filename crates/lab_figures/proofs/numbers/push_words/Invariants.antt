use Rattle.std.proofs.Common.{◌≡◌}
use Rattle.cm_bits.specs.Text.{words_left, words_of}
use Rattle.lab_figures.specs.Numbers.{numbers_after_words}
use Rattle.lab_figures.proofs.numbers.push_words.Given as goal

-- what is left gives what all of it gave at the start
abbrev pub invariant-loop-word : goal.invariant-loop-word
invariant-loop-word l =
    numbers_after_words l.len l.count l.line l.numbers.items (words_left l.word-iterator)
    ≡ numbers_after_words l.len l.count l.line l.fn.numbers.items (words_of l.fn.bytes)
