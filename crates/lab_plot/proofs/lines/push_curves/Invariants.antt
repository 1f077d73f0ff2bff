use Rattle.std.proofs.Common.{◌≡◌, ◌++◌}
use Rattle.std.specs.List.{flat_map, range_with_len}
use Rattle.lab_plot.specs.Lines.{curve_text}
use Rattle.lab_plot.proofs.lines.push_curves.Given as goal

-- so many lines
abbrev pub invariant-loop-k : goal.invariant-loop-k
invariant-loop-k l = l.text.items ≡ l.initial.text.items
    ++ flat_map (curve_text l.frame l.header l.points l.panel) (range_with_len 0 l.k)
