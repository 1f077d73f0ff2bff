use Rattle.std.proofs.Common.{◌≡◌, ◌++◌, ◌∷◌}
use Rattle.std.specs.List.{flat_map}
use Rattle.cm_bits.specs.Text.{words_left}
use Rattle.lab_source.specs.Expansion.{plain_word}
use Rattle.lab_source.proofs.plain.push_operands.Given as goal

-- what is written, and what the words that are left give
abbrev pub invariant-loop-word : goal.invariant-loop-word
invariant-loop-word l =
    l.text.items ++ flat_map (λ operand. 32 ∷ plain_word l.constants operand) (words_left l.word-iterator)
    ≡ l.fn.text.items ++ flat_map (λ operand. 32 ∷ plain_word l.constants operand) (words_left l.words)
