use Rattle.std.proofs.Common.{◌≡◌, ◌++◌, flat_map, decimal}
use Rattle.std.specs.List.{range_with_len}
use Rattle.lab_route.specs.RouteLines.{step_text}
use Rattle.lab_route.proofs.route_lines.push_chips.Given as goal

-- the chips behind so many dimensions
abbrev pub invariant-loop-dim : goal.invariant-loop-dim
invariant-loop-dim l = l.text.items ≡ l.fn.text.items ++ decimal l.from
    ++ flat_map (step_text l.from l.to) (range_with_len 0 l.dim)
