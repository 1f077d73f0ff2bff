-- Laws of pictures, each the contract of a function of its name. Ours.
use Rattle.std.specs.Prelude.{◌≡◌, ℕ, ◌*◌, ◌^◌, ◌<◌, ◌≤◌, true, List, [], ◌∷◌, ◌++◌, codes, Some, None, Ok, Err}
use Rattle.std.specs.List.{All}
use Rattle.lab_plot.specs.declared.fault.PlotFault.TheVariants as fault
use Rattle.lab_plot.specs.declared.panels.Panel.{Panel}
use Rattle.lab_plot.specs.declared.points.Kind.{Kind}
use Rattle.lab_plot.specs.declared.points.Kind.TheVariants as kind
use Rattle.lab_plot.specs.declared.points.Point.{Point}
use Rattle.lab_plot.specs.Axes.{axis_of, in_columns}
use Rattle.lab_plot.specs.Bins.{bin_width}
use Rattle.lab_plot.specs.Cells.{cell, cell_number, shortened}
use Rattle.lab_plot.specs.Pictures.{frame_of}
use Rattle.lab_plot.specs.Pieces.{number_text}
use Rattle.lab_plot.specs.Points.{table_kind, points_with, row_points}
use Rattle.lab_plot.specs.Rows.{row_fault}
use Rattle.lab_plot.specs.Shown.{columns_shown, first_column}
use Rattle.lab_plot.specs.Standing.{Joins, StandsOn}
use Rattle.lab_plot.specs.Ticks.{across_text, cycle_tick}

-- an axis of two numbers goes from a tick at the lesser or before it to one at the greater or behind it
abbrev pub AxesJoinTheirNumbers : Type 0
AxesJoinTheirNumbers = (unit least most : ℕ) → 0 < unit → least ≤ most → Joins (axis_of unit least most) least most

-- an axis has at most twelve ticks, so that all of them are drawn
abbrev pub AxesHaveTwelveTicks : Type 0
AxesHaveTwelveTicks = (unit least most : ℕ) → 0 < unit → least ≤ most → most < 2 ^ 64
    → (axis_of unit least most).span < 12 * (axis_of unit least most).step

-- each point of a panel's columns stands on it, whichever points a picture has
abbrev pub PointsStandOnTheirPanels : Type 0
PointsStandOnTheirPanels = (kind : Kind) (x : ℕ) (points : List Point) (panel : Panel)
    → All (λ point. in_columns (first_column panel) (columns_shown panel) point.column ≡ true
    → StandsOn (frame_of kind x points panel) point) points

-- these rows of tables tell these points, and these cells these numbers; all are in thousandths
pub record RowsTellPoints : Type 0 where
  pub cycle : row_points kind.Cycles 3 (codes "6,16,5")
      ≡ record { column = 1; x = 6000; y = 16000 } ∷ record { column = 2; x = 6000; y = 5000 } ∷ []
  pub message : row_points kind.Messages 8 (codes "9,0,3,0,12,4,2,1") ≡ record { column = 1; x = 2000; y = 1000 } ∷ []
  pub undelivered : row_points kind.Messages 8 (codes "1,0,0,0,1,,0,0") ≡ []
  pub gap : row_points kind.Compared 3 (codes "0.5,,1.42") ≡ record { column = 2; x = 500; y = 1420 } ∷ []
  pub blanks : row_points kind.Compared 2 (codes "0.5, 1.42 " ++ 13 ∷ [])
      ≡ record { column = 1; x = 500; y = 1420 } ∷ []
  pub whole : cell_number (codes "12") ≡ Some 12000
  pub thousandth : cell_number (codes "1.005") ≡ Some 1005
  pub finer : cell_number (codes "1.00999999999999999999999") ≡ Some 1009
  pub tenth : cell_number (codes "0.5") ≡ Some 500
  pub no_number : cell_number (codes "1.x") ≡ None
  pub no_digit : cell_number (codes ".5") ≡ None

-- these first lines are of these tables, or of none
pub record FirstLinesTellTables : Type 0 where
  pub cycles : table_kind 1 (codes "cycle,taken,delivered,referred,standing,full,asking") ≡ Ok kind.Cycles
  pub blanks : table_kind 1 (codes "cycle, taken,delivered,referred,standing,full,asking" ++ 13 ∷ []) ≡ Ok kind.Cycles
  pub compared : table_kind 1 (codes "rate:mean latency,who came first,the oldest") ≡ Ok kind.Compared
  pub loads : table_kind 1 (codes "rate,offered,taken,delivered,throughput,mean,p95,greatest,deepest") ≡ Ok kind.Loads
  pub crossings : table_kind 1
      (codes "rate,offered,taken,delivered,throughput,mean,p95,greatest,deepest,crossed,referred,refused,quiet")
      ≡ Ok kind.Loads
  pub latencies : table_kind 1 (codes "latency,rate 0.50") ≡ Ok kind.Latencies
  pub ten : table_kind 1 (codes "rate,a,b,c,d,e,f,g,h,i") ≡ Ok kind.Compared
  pub eleven : table_kind 2 (codes "rate,a,b,c,d,e,f,g,h,i,j") ≡ Err (fault.Wide 2 11)
  pub unknown : table_kind 3 (codes "cycle,taken") ≡ Err (fault.Unknown 3)

-- these lines of a table of two columns have no fault, or this one
pub record RowsHaveFaults : Type 0 where
  pub row : row_fault 2 4 (codes "1, 0.12345") ≡ None
  pub gap : row_fault 2 4 (codes "1,") ≡ None
  pub few : row_fault 2 4 (codes "1") ≡ Some (fault.Width 4 1 2)
  pub many : row_fault 2 4 (codes "1,2,x") ≡ Some (fault.Width 4 3 2)
  pub word : row_fault 2 4 (codes "1,x") ≡ Some (fault.Cell 4 2)
  pub first : row_fault 2 4 (codes "-1,x") ≡ Some (fault.Cell 4 1)
  pub large : row_fault 2 4 (codes "1,9223372036854775.808") ≡ Some (fault.Large 4 2)
  pub largest : row_fault 2 4 (codes "1,9223372036854775.8079") ≡ None
  pub larger : row_fault 2 4 (codes "1,99999999999999999999999") ≡ Some (fault.Large 4 2)
  pub blank : points_with kind.Compared 2 4 [] (32 ∷ 9 ∷ 13 ∷ []) ≡ Ok []

-- these axes have these ticks, and these bins this width
pub record AxesHaveRoundTicks : Type 0 where
  pub hundreds : axis_of 1 0 1700 ≡ record { low = 0; step = 200; span = 1800 }
  pub whole_numbers : axis_of 1000 3000 7000 ≡ record { low = 3000; step = 1000; span = 4000 }
  pub nothing : axis_of 1000 0 0 ≡ record { low = 0; step = 1000; span = 1000 }
  pub one_cycle : bin_width 99000 ≡ 1000
  pub five_cycles : bin_width 250000 ≡ 5000

-- of petit cycles 8 and 9 each begins at a line and has its number in its middle; none begins at the end
pub record PetitCyclesHaveTheirNumbers : Type 0 where
  pub first : cycle_tick (record { low = 8000; step = 1000; span = 2000 }) 0
      ≡ across_text 0 1400 ++ number_text 8000 ++ codes "</text>\n"
  pub second : cycle_tick (record { low = 8000; step = 1000; span = 2000 }) 1
      ≡ across_text 2800 4200 ++ number_text 9000 ++ codes "</text>\n"
  pub end : cycle_tick (record { low = 8000; step = 1000; span = 2000 }) 2 ≡ []

-- names that fit are shown whole, with what XML asks for; of others the beginning and an ellipsis
pub record NamesAreShownSo : Type 0 where
  pub whole : shortened 15 (codes "a<b&c") ≡ codes "a&lt;b&amp;c"
  pub fifteen : shortened 15 (codes "who comes first") ≡ codes "who comes first"
  pub longer : shortened 15 (codes "who came first, or last") ≡ codes "who came first&#8230;"
  pub brackets : shortened 15 (codes "a]]>b") ≡ codes "a]]&gt;b"
  pub title : cell (codes "rate:mean, first ,oldest") 1 ≡ codes "first"
  pub none : cell (codes "rate") 1 ≡ []
