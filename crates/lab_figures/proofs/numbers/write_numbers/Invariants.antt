use Rattle.std.proofs.Common.{◌≡◌, ◌++◌, drop}
use Rattle.lab_figures.specs.Numbers.{numbers_text}
use Rattle.lab_figures.proofs.numbers.write_numbers.Given as goal

-- so many numbers are written, and the others are left
abbrev pub invariant-loop-index : goal.invariant-loop-index
invariant-loop-index l = numbers_text l.width 0 l.numbers
    ≡ l.text.items ++ numbers_text l.width l.index (drop l.index l.numbers)
