-- The lines of a panel, with their dots and names. Lengths are tenths of a dot. SVG 1.1 is W3C's; what is drawn is ours.
use Rattle.std.specs.Prelude.{ℕ, ◌+◌, ◌-◌, ◌*◌, ◌==◌, Bool, nat_le, if◌then◌else◌, List, [], ◌++◌, codes}
use Rattle.std.specs.List.{count_by, flat_map}
use Rattle.lab_plot.specs.declared.panels.Frame.{Frame}
use Rattle.lab_plot.specs.declared.panels.Panel.{Panel}
use Rattle.lab_plot.specs.declared.points.Point.{Point}
use Rattle.lab_plot.specs.Axes.{place_along}
use Rattle.lab_plot.specs.Cells.{cell, shortened}
use Rattle.lab_plot.specs.Pieces.{piece}
use Rattle.lab_plot.specs.Shown.{first_column}

-- the colour of a panel's lines, one after another
abbrev pub colour : ℕ → List ℕ
colour k =
    if k == 0 then codes "#0072b2"
    else (if k == 1 then codes "#d55e00"
    else (if k == 2 then codes "#009e73"
    else (if k == 3 then codes "#cc79a7"
    else (if k == 4 then codes "#e69f00"
    else (if k == 5 then codes "#56b4e9"
    else (if k == 6 then codes "#000000" else (if k == 7 then codes "#999999" else codes "#8c564b")))))))

-- ---- points

-- where a point stands, from the left
abbrev pub place_x : Frame → Point → ℕ
place_x frame point = place_along frame.across point.x 5600

-- where a point stands, from above
abbrev pub place_y : Frame → Point → ℕ
place_y frame point = 2400 - place_along frame.up point.y 2400

-- a point is of a column
abbrev pub is_of : ℕ → Point → Bool
is_of c point = point.column == c

-- below a point, where lines stand on the axis
abbrev pub foot : Frame → Point → List ℕ
foot frame point = if frame.stems then piece (codes " ") (place_x frame point) ++ codes ",2400" else []

-- the corner of a line at a point
abbrev pub tip : Frame → Point → List ℕ
tip frame point = piece (codes " ") (place_x frame point) ++ piece (codes ",") (place_y frame point)

-- a corner of the line of a column
abbrev pub column_corner : Frame → ℕ → Point → List ℕ
column_corner frame c point = if is_of c point then foot frame point ++ tip frame point ++ foot frame point else []

-- a dot at this place, in this colour
unfoldable pub circle : ℕ → ℕ → List ℕ → List ℕ
circle x y paint = piece (codes "<circle r='40' cx='") x ++ piece (codes "' cy='") y ++ codes "' fill='" ++ paint ++ codes "'/>\n"

-- a dot of the line of a column, of the k-th colour
abbrev pub dot : Frame → ℕ → ℕ → Point → List ℕ
dot frame c k point =
    if is_of c point then circle (place_x frame point) (place_y frame point) (colour k) else []

-- ---- lines

-- how a line begins
unfoldable pub line_open : List ℕ → List ℕ
line_open paint =
    codes "<polyline fill='none' stroke-width='25' stroke-linejoin='round' stroke='" ++ paint ++ codes "' points='"

-- the line of a column
unfoldable pub line_text : Frame → List Point → ℕ → ℕ → List ℕ
line_text frame points c k = line_open (colour k) ++ flat_map (column_corner frame c) points ++ codes "'/>\n"

-- the dots of a column, one at each of its points, if there are 64 points at most
unfoldable pub dots_text : Frame → List Point → ℕ → ℕ → List ℕ
dots_text frame points c k =
    if nat_le (count_by (is_of c) points) 64 then flat_map (dot frame c k) points else []

-- beside the frame, at this height: a sign in the colour of a line, and how the line's name begins
unfoldable pub name_open : List ℕ → ℕ → List ℕ
name_open paint y =
    codes "<path stroke-width='25' stroke='" ++ paint ++ piece (codes "' d='M5750 ") y
    ++ piece (codes "h300'/><text text-anchor='start' x='6130' y='") (y + 50) ++ codes "'>"

-- the name of a line, which is that of its column; there is room for fifteen letters
unfoldable pub name_text : List ℕ → ℕ → ℕ → List ℕ
name_text header c k = name_open (colour k) (100 + 250 * k) ++ shortened 15 (cell header c) ++ codes "</text>\n"

-- the k-th line of a panel
unfoldable pub curve_text : Frame → List ℕ → List Point → Panel → ℕ → List ℕ
curve_text frame header points panel k =
    line_text frame points (first_column panel + k) k ++ dots_text frame points (first_column panel + k) k
    ++ name_text header (first_column panel + k) k
