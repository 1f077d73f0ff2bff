use Rattle.std.proofs.Common.{◌≡◌, map, drop}
use Rattle.lab_source.specs.Expansion.{nothing_out, expansion_after_places}
use Rattle.lab_source.proofs.expansion.carry_out.Given as goal

-- what is left does what all of it does from the start
abbrev pub invariant-loop-place : goal.invariant-loop-place
invariant-loop-place l =
    expansion_after_places (map (λ line. line.now) l.lines) l.constants l.out (drop l.place-index l.order)
    ≡ expansion_after_places (map (λ line. line.now) l.lines) l.constants nothing_out l.order
