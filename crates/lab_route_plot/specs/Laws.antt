-- The law of pictures of routes, the contract of a function of its name. Ours.
use Rattle.std.specs.Prelude.{◌≡◌, [], ◌∷◌, ◌++◌, codes, None, Some, Ok, Err}
use Rattle.lab_plot.specs.declared.fault.PlotFault.TheVariants as fault
use Rattle.lab_route_plot.specs.declared.legs.Step.TheVariants as step
use Rattle.lab_route_plot.specs.Cycles.{ten_cycles}
use Rattle.lab_route_plot.specs.Legs.{chip_of_word, legs_with, line_legs}
use Rattle.lab_route_plot.specs.Rows.{most_dims, route_x, route_y, route_rows}

-- these lines tell these legs, and these legs stand in these rows and places
pub record RoutesAreDrawnSo : Type 0 where
  pub stayed : line_legs ten_cycles (codes "cycle 2: 8, stays, place 2 of 3")
      ≡ record { cycle = 2; start = 0; end = 0; from = 8; to = 8; step = step.Wanted }
      ∷ record { cycle = 3; start = 0; end = 0; from = 8; to = 8; step = step.Wanted } ∷ []
  pub delivered : line_legs ten_cycles (codes "cycle 4: 0, delivered to processor 15")
      ≡ record { cycle = 4; start = 0; end = 0; from = 0; to = 0; step = step.Wanted }
      ∷ record { cycle = 5; start = 0; end = 0; from = 0; to = 0; step = step.Delivered } ∷ []
  pub crossed : line_legs ten_cycles (codes "cycle 0: 15 -> 14 -> 10, referred in 2, place 1 of 1")
      ≡ record { cycle = 0; start = 0; end = 0; from = 15; to = 15; step = step.Wanted }
      ∷ record { cycle = 0; start = 0; end = 1; from = 15; to = 14; step = step.Wanted }
      ∷ record { cycle = 0; start = 2; end = 3; from = 14; to = 10; step = step.Referred }
      ∷ record { cycle = 1; start = 0; end = 0; from = 10; to = 10; step = step.Wanted } ∷ []
  pub left_out : line_legs (record { from = 3; to = 9 }) (codes "cycle 2: 8, stays, place 2 of 3") ≡ []
  pub behind : line_legs (record { from = 0; to = 1 }) (codes "cycle 2: 8, stays, place 2 of 3") ≡ []
  pub waits : line_legs ten_cycles (codes "cycle 2: 8, stays, place 2 of 3, waits in 3 behind 9 0 0")
      ≡ line_legs ten_cycles (codes "cycle 2: 8, stays, place 2 of 3")
  pub stands : line_legs ten_cycles (codes "stands at 3, for processor 3 of chip 0") ≡ []
  pub blanks : legs_with ten_cycles 1 [] (32 ∷ codes "cycle 2: 8, stays, place 2 of 3" ++ 13 ∷ [])
      ≡ Ok (line_legs ten_cycles (codes "cycle 2: 8, stays, place 2 of 3"))
  pub blank : legs_with ten_cycles 1 [] (32 ∷ 9 ∷ 13 ∷ []) ≡ Ok []
  pub no_cycle : legs_with ten_cycles 3 [] (codes "cycle x: 1, place 1 of 1") ≡ Err (fault.Route 3)
  pub no_route : legs_with ten_cycles 3 [] (codes "cycles 1: 1, place 1 of 1") ≡ Err (fault.Route 3)
  pub late : legs_with ten_cycles 3 [] (codes "cycle 1125899906842624: 0, stays, place 1 of 1") ≡ Err (fault.Route 3)
  pub last_chip : chip_of_word (codes "4095") ≡ Some 4095
  pub no_chip : chip_of_word (codes "4096") ≡ None
  pub rows : route_rows
      (record { cycle = 1; start = 0; end = 0; from = 12; to = 12; step = step.Wanted }
      ∷ record { cycle = 1; start = 2; end = 3; from = 12; to = 8; step = step.Wanted }
      ∷ record { cycle = 1; start = 2; end = 3; from = 8; to = 12; step = step.Referred } ∷ []) ≡ 12 ∷ 8 ∷ []
  pub dims : most_dims
      (record { cycle = 1; start = 0; end = 0; from = 12; to = 12; step = step.Wanted }
      ∷ record { cycle = 1; start = 2; end = 3; from = 12; to = 8; step = step.Wanted } ∷ []) ≡ 3
  pub no_dims : most_dims [] ≡ 1
  pub above : route_y (12 ∷ 8 ∷ 0 ∷ []) 12 ≡ 400
  pub middle : route_y (12 ∷ 8 ∷ 0 ∷ []) 8 ≡ 1200
  pub across : route_x
      (record { rows = []; dims = 4; across = record { low = 2000; step = 1000; span = 8000 } }) 6 2 ≡ 3150
