-- The picture of a table, as an SVG. Ours.
use Rattle.std.specs.Prelude.{ℕ, ◌+◌, ◌*◌, ◌-◌, Bool, true, false, if◌then◌else◌, Option, Some, None, Result, Ok, Err}
use Rattle.std.specs.Prelude.{List, [], ◌∷◌, ◌++◌, codes}
use Rattle.cm_bits.specs.Text.{lines_of}
use Rattle.lab_plot.specs.declared.panels.Frame.{Frame}
use Rattle.lab_plot.specs.declared.panels.Panel.{Panel}
use Rattle.lab_plot.specs.declared.panels.Panel.TheVariants.{Moved, Held, Latency, Throughput, Bins, Took, Columns}
use Rattle.lab_plot.specs.declared.points.Kind.{Kind}
use Rattle.lab_plot.specs.declared.points.Kind.TheVariants.{Cycles, Messages, Loads, Latencies, Compared}
use Rattle.lab_plot.specs.declared.points.Point.{Point}
use Rattle.lab_plot.specs.declared.fault.PlotFault.{PlotFault}
use Rattle.lab_plot.specs.declared.fault.PlotFault.TheVariants.{Empty, NoDelivery, NoPoint}
use Rattle.lab_plot.specs.Axes.{axis_of, highest, leftmost, rightmost}
use Rattle.lab_plot.specs.Bins.{bins}
use Rattle.lab_plot.specs.Cells.{has_words, width_of}
use Rattle.lab_plot.specs.Heads.{picture_head, title_of}
use Rattle.lab_plot.specs.Panels.{panel_text}
use Rattle.lab_plot.specs.Points.{table_kind, points_after}
use Rattle.lab_plot.specs.Rows.{◌>>=◌}
use Rattle.lab_plot.specs.Shown.{first_column, columns_shown, unit_of}

-- ---- words

-- what is written along the axis to the right
abbrev pub across_label : Kind → List ℕ
across_label Cycles = codes "petit cycle"
across_label Messages = codes "petit cycles"
across_label Loads = codes "messages that a chip offers in a petit cycle"
across_label Latencies = codes "petit cycles"
across_label Compared = codes "messages that a chip offers in a petit cycle"

-- the unit of numbers to the right, in thousandths: rates are not whole, and all other numbers are
abbrev pub right_unit : Kind → ℕ
right_unit Cycles = 1000
right_unit Messages = 1000
right_unit Loads = 1
right_unit Latencies = 1000
right_unit Compared = 1

-- ---- the picture

-- points are drawn as lines that stand on the axis: numbers of messages are
abbrev pub has_stems : Kind → Bool
has_stems Cycles = false
has_stems Messages = true
has_stems Loads = false
has_stems Latencies = false
has_stems Compared = false

-- all panels of a picture have one axis to the right
abbrev pub frame_of : Kind → ℕ → List Point → Panel → Frame
frame_of kind x points panel = record {
  across = axis_of (right_unit kind) (leftmost x points) (rightmost x points);
  up = axis_of (unit_of panel) 0 (highest (first_column panel) (columns_shown panel) points);
  stems = has_stems kind;
}

-- panel i of a picture, counted from above
unfoldable pub panel_shown : Kind → List ℕ → ℕ → List Point → Panel → ℕ → List ℕ
panel_shown kind header x points panel i =
    panel_text (600 + 3300 * i) (across_label kind) (frame_of kind x points panel) header points panel

-- the panels of a picture, from the uppermost down
abbrev pub panels_text : Kind → List ℕ → ℕ → List Point → List ℕ
panels_text Cycles header x points = panel_shown Cycles header x points Moved 0 ++ panel_shown Cycles header x points Held 1
panels_text Messages header x points = panel_shown Messages (codes "petit cycles,messages") x points Bins 0
panels_text Latencies header x points = panel_shown Latencies header x points (Took (width_of header - 1)) 0
panels_text Compared header x points = panel_shown Compared header x points (Columns (width_of header - 1)) 0
panels_text Loads header x points = panel_shown Loads header x points Latency 0 ++ panel_shown Loads header x points Throughput 1

-- how many panels a picture has
abbrev pub panel_count : Kind → ℕ
panel_count Cycles = 2
panel_count Messages = 1
panel_count Loads = 2
panel_count Latencies = 1
panel_count Compared = 1

-- a picture of these points, of which the first stands here to the right
unfoldable pub table_drawing : Kind → List ℕ → ℕ → List Point → List ℕ
table_drawing kind header x points =
    picture_head (title_of kind) (600 + 3300 * panel_count kind) ++ panels_text kind header x points ++ codes "</svg>\n"

-- where the axis to the right begins at the latest: at the first point, or at 0
abbrev pub axis_start : Kind → ℕ → ℕ
axis_start Cycles x = x
axis_start Messages x = 0
axis_start Loads x = 0
axis_start Latencies x = 0
axis_start Compared x = 0

-- the points that are drawn
abbrev pub drawn_points : Kind → List Point → List Point
drawn_points Cycles points = points
drawn_points Loads points = points
drawn_points Latencies points = points
drawn_points Compared points = points
drawn_points Messages points = bins points

-- what is missing where a table has no point
abbrev pub nothing_of : Kind → PlotFault
nothing_of Cycles = NoPoint
nothing_of Messages = NoDelivery
nothing_of Loads = NoPoint
nothing_of Latencies = NoDelivery
nothing_of Compared = NoPoint

-- the picture of a table's points, if there are any
abbrev pub of_points : Kind → List ℕ → List Point → Result (List ℕ) PlotFault
of_points kind header [] = Err (nothing_of kind)
of_points kind header (point ∷ points) =
    Ok (table_drawing kind header (axis_start kind point.x) (drawn_points kind (point ∷ points)))

-- the picture of a table of this kind, whose first line has this number, and of the lines behind it
abbrev pub drawing_of_kind : ℕ → List ℕ → List (List ℕ) → Kind → Result (List ℕ) PlotFault
drawing_of_kind number header lines kind =
    points_after kind (width_of header) (number + 1) [] lines >>= λ points. of_points kind header points

-- the picture of a table with this first line, which has this number
abbrev pub of_header : ℕ → List ℕ → List (List ℕ) → Result (List ℕ) PlotFault
of_header number header lines = table_kind number header >>= λ kind. drawing_of_kind number header lines kind

-- the picture of the lines from this number on, of which the first that is not blank is that of a table
unfoldable pub of_lines : ℕ → List (List ℕ) → Result (List ℕ) PlotFault
of_lines number [] = Err Empty
of_lines number (line ∷ lines) =
    if has_words line then of_header number line lines else of_lines (number + 1) lines

-- the fault, if there is one
abbrev pub fault_of : {A : Type 0} → Result A PlotFault → Option PlotFault
fault_of (Ok x) = None
fault_of (Err fault) = Some fault

-- what is wrong with the lines from this number on before a table begins: all are blank, or the first that is not is
-- the first of no table
unfoldable pub head_fault : ℕ → List (List ℕ) → Option PlotFault
head_fault number [] = Some Empty
head_fault number (line ∷ lines) =
    if has_words line then fault_of (table_kind number line) else head_fault (number + 1) lines

-- the picture of a text that is a table, or its first fault
unfoldable pub table_picture : List ℕ → Result (List ℕ) PlotFault
table_picture text = of_lines 1 (lines_of text)
