use Rattle.std.proofs.Common.{◌≡◌, []}
use Rattle.cm_bits.specs.Text.{lines_left, lines_of}
use Rattle.lab_route_plot.specs.Legs.{legs_after}
use Rattle.lab_route_plot.proofs.legs.read_legs.Given as goal

-- what is left gives what all of it gave at the start
abbrev pub invariant-loop-line : goal.invariant-loop-line
invariant-loop-line l =
    legs_after l.cycles l.number l.legs.items (lines_left l.line-iterator) ≡ legs_after l.cycles 1 [] (lines_of l.fn.text)
