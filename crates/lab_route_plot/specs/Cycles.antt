-- Petit cycles from one on up to another. Ours.
use Rattle.std.specs.Prelude.{ℕ, ◌-◌, ◌^◌, ◌==◌, ◌&&◌, Bool, nat_le}
use Rattle.lab_route_plot.specs.declared.legs.Cycles.{Cycles}

-- a petit cycle is one of these
abbrev pub is_among_cycles : Cycles → ℕ → Bool
is_among_cycles cycles c = nat_le cycles.from c && nat_le c cycles.to

-- these are all that there can be
abbrev pub are_all_cycles : Cycles → Bool
are_all_cycles cycles = cycles.from == 0 && cycles.to == 2 ^ 64 - 1

-- those of worked lines
abbrev pub ten_cycles : Cycles
ten_cycles = record { from = 0; to = 9 }
