use Rattle.std.proofs.Common.{◌≡◌, ◌+◌, ◌-◌}
use Rattle.std.specs.List.{find, range_with_len}
use Rattle.lab_load.specs.Offers.{offers}
use Rattle.lab_load.proofs.sources.Source.first_offer.Given as goal

-- the earliest from here on is the earliest of all
abbrev pub invariant-loop-s : goal.invariant-loop-s
invariant-loop-s l =
    find (λ s. offers l.load s l.place) (range_with_len l.fn.self.next (l.t + 1 - l.fn.self.next))
    ≡ find (λ s. offers l.load s l.place) (range_with_len l.s (l.t + 1 - l.s))
