-- The points of a table: what its numbers say, to the right and upward. Ours.
use Rattle.std.specs.Prelude.{ℕ, ◌+◌, ◌-◌, ◌||◌, Bool, nat_eq, nat_le, if◌then◌else◌, Option, Some, None, Result, Ok, Err}
use Rattle.std.specs.Prelude.{List, [], ◌∷◌, ◌++◌, bytes_eq, codes}
use Rattle.std.specs.List.{flat_map, range_with_len, starts_with}
use Rattle.lab_plot.specs.Cells.{cell, has_words, cell_number, width_of}
use Rattle.lab_plot.specs.declared.points.Kind.{Kind}
use Rattle.lab_plot.specs.declared.points.Kind.TheVariants.{Cycles, Messages, Loads, Latencies, Compared}
use Rattle.lab_plot.specs.declared.points.Point.{Point}
use Rattle.lab_plot.specs.declared.fault.PlotFault.{PlotFault}
use Rattle.lab_plot.specs.declared.fault.PlotFault.TheVariants.{Unknown, Wide}
use Rattle.lab_plot.specs.Rows.{◌>>=◌, has_names, row_fault, value_unless}

-- a first line of loads, and maybe of what is counted beside
abbrev pub is_of_loads : List ℕ → Bool
is_of_loads header =
    has_names header (codes "rate,offered,taken,delivered,throughput,mean,p95,greatest,deepest")
    || has_names header
    (codes "rate,offered,taken,delivered,throughput,mean,p95,greatest,deepest,crossed,referred,refused,quiet")

-- a first line of rates
abbrev pub is_of_rates : List ℕ → Bool
is_of_rates header = starts_with nat_eq (cell header 0) (codes "rate")

-- a first line of latencies
abbrev pub is_of_latencies : List ℕ → Bool
is_of_latencies header = bytes_eq (cell header 0) (codes "latency")

-- a table of this kind, of which at most nine columns behind the first are drawn
abbrev pub drawn_if_few : Kind → ℕ → ℕ → Result Kind PlotFault
drawn_if_few kind number columns = if nat_le columns 10 then Ok kind else Err (Wide number columns)

-- which table a text is, by its first line that is not blank, which has this number: of petit cycles, of messages, of
-- loads, of how long messages took under loads, of loads that are compared
abbrev pub table_kind : ℕ → List ℕ → Result Kind PlotFault
table_kind number header =
    if has_names header (codes "cycle,taken,delivered,referred,standing,full,asking") then Ok Cycles
    else (if has_names header (codes "chip,processor,taken,to chip,to processor,delivered,crossed,referred")
    then Ok Messages
    else (if is_of_loads header then Ok Loads
    else (if is_of_latencies header then drawn_if_few Latencies number (width_of header)
    else (if is_of_rates header then drawn_if_few Compared number (width_of header) else Err (Unknown number)))))

-- a point of a column, where two numbers are there
abbrev pub point_of : ℕ → Option ℕ → Option ℕ → List Point
point_of c None y = []
point_of c (Some x) None = []
point_of c (Some x) (Some y) = record { column = c; x = x; y = y } ∷ []

-- the point of a column: the row's first number to the right, that of the column upward
abbrev pub point_in : List ℕ → ℕ → List Point
point_in line c = point_of c (cell_number (cell line 0)) (cell_number (cell line c))

-- how many petit cycles a message took, from that in which it was taken in to that in which it was delivered, both
-- counted; in thousandths
abbrev pub latency_in_thousandths : ℕ → ℕ → ℕ
latency_in_thousandths taken delivered = delivered + 1000 - taken

-- one message that took so long
abbrev pub latency_point : Option ℕ → Option ℕ → List Point
latency_point None delivered = []
latency_point (Some taken) None = []
latency_point (Some taken) (Some delivered) = record { column = 1; x = latency_in_thousandths taken delivered; y = 1000 } ∷ []

-- the points of a row: of each column behind the first; of a message that was delivered how long it took
abbrev pub row_points : Kind → ℕ → List ℕ → List Point
row_points Cycles columns line = flat_map (point_in line) (range_with_len 1 (columns - 1))
row_points Loads columns line = flat_map (point_in line) (range_with_len 1 (columns - 1))
row_points Latencies columns line = flat_map (point_in line) (range_with_len 1 (columns - 1))
row_points Compared columns line = flat_map (point_in line) (range_with_len 1 (columns - 1))
row_points Messages columns line = latency_point (cell_number (cell line 2)) (cell_number (cell line 5))

-- the points so far and those of a line, which has this number; a blank line has none
abbrev pub points_with : Kind → ℕ → ℕ → List Point → List ℕ → Result (List Point) PlotFault
points_with kind columns number points line =
    if has_words line then value_unless (row_fault columns number line) (points ++ row_points kind columns line)
    else Ok points

-- the points so far and those of the lines from this one on, or the first fault of these
unfoldable pub points_after : Kind → ℕ → ℕ → List Point → List (List ℕ) → Result (List Point) PlotFault
points_after kind columns number points [] = Ok points
points_after kind columns number points (line ∷ lines) =
    points_with kind columns number points line >>= λ more. points_after kind columns (number + 1) more lines
