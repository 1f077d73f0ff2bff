-- The lines of a route, one after another.
use Rattle.std.proofs.Common.{◌≡◌, ℕ, ◌+◌, List, ◌∷◌, Result, ap}
use Rattle.lab_plot.specs.declared.fault.PlotFault.{PlotFault}
use Rattle.lab_plot.specs.Rows.{◌>>=◌}
use Rattle.lab_route_plot.specs.declared.legs.Cycles.{Cycles}
use Rattle.lab_route_plot.specs.declared.legs.Leg.{Leg}
use Rattle.lab_route_plot.specs.Legs.{legs_with, legs_after}

-- a line, and those behind it
pub after_line : (cycles : Cycles) (number : ℕ) (legs : List Leg) (line : List ℕ) (lines : List (List ℕ)) (r : Result (List Leg) PlotFault)
    → legs_with cycles number legs line ≡ r
    → legs_after cycles number legs (line ∷ lines) ≡ (r >>= λ more. legs_after cycles (number + 1) more lines)
unfolding legs_after
after_line cycles number legs line lines r e =
    ap (λ (q : Result (List Leg) PlotFault). q >>= λ more. legs_after cycles (number + 1) more lines) e
