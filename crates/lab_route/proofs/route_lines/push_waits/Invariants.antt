use Rattle.std.proofs.Common.{◌≡◌, ◌++◌, flat_map, take}
use Rattle.lab_route.specs.RouteLines.{wait_text}
use Rattle.lab_route.proofs.route_lines.push_waits.Given as goal

-- so many are told
abbrev pub invariant-loop-wait : goal.invariant-loop-wait
invariant-loop-wait l = l.text.items ≡ l.initial.text.items ++ flat_map wait_text (take l.wait-index l.waits)
