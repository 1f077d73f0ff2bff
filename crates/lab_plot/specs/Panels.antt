-- Panels: a frame, its ticks, a line for each column, what is written along the sides. Lengths are tenths of a dot; a
-- panel is 5600 wide and 2400 high. Ours.
use Rattle.std.specs.Prelude.{ℕ, List, ◌++◌, codes}
use Rattle.std.specs.List.{flat_map, range_with_len}
use Rattle.lab_plot.specs.declared.panels.Frame.{Frame}
use Rattle.lab_plot.specs.declared.panels.Panel.{Panel}
use Rattle.lab_plot.specs.declared.points.Point.{Point}
use Rattle.lab_plot.specs.Cells.{shortened}
use Rattle.lab_plot.specs.Lines.{curve_text}
use Rattle.lab_plot.specs.Pieces.{piece}
use Rattle.lab_plot.specs.Shown.{columns_shown, label_of}
use Rattle.lab_plot.specs.Ticks.{ticks_text}

-- what is written below a panel
unfoldable pub below_text : List ℕ → List ℕ
below_text across = codes "<text x='2800' y='2850'>" ++ across ++ codes "</text>\n"

-- what is written on the left of a panel, from below upward; there is room for 32 letters
unfoldable pub left_text : List ℕ → List ℕ
left_text label =
    codes "<text transform='translate(-750,1200)rotate(-90)'>" ++ shortened 32 label ++ codes "</text>\n"

-- the frame of a panel, as SVG writes it
unfoldable pub box_text : List ℕ
box_text = codes "<rect width='5600' height='2400' fill='none' stroke='black' stroke-width='10'/>\n"

-- the frame of a panel, and what is written along its sides
unfoldable pub sides_text : List ℕ → List ℕ → List ℕ
sides_text across label = box_text ++ below_text across ++ left_text label

-- a place at this height of a picture
unfoldable pub place_text : ℕ → List ℕ
place_text top = piece (codes "<g transform='translate(1000,") top ++ codes ")'>\n"

-- a panel at this height of a picture
unfoldable pub panel_text : ℕ → List ℕ → Frame → List ℕ → List Point → Panel → List ℕ
panel_text top across frame header points panel =
    place_text top ++ ticks_text frame
    ++ sides_text across (label_of panel header)
    ++ flat_map (curve_text frame header points panel) (range_with_len 0 (columns_shown panel)) ++ codes "</g>\n"
