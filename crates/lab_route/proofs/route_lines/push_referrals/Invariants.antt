use Rattle.std.proofs.Common.{◌≡◌, ◌++◌, flat_map}
use Rattle.std.specs.List.{range_with_len}
use Rattle.lab_route.specs.RouteLines.{referral_text}
use Rattle.lab_route.proofs.route_lines.push_referrals.Given as goal

-- those of so many dimensions
abbrev pub invariant-loop-dim : goal.invariant-loop-dim
invariant-loop-dim l = l.text.items ≡ l.initial.text.items
    ++ flat_map (referral_text l.from l.to l.rel) (range_with_len 0 l.dim)
