-- What stands before the panels of a picture. Ours.
use Rattle.std.specs.Prelude.{ℕ, ◌/◌, List, ◌++◌, codes}
use Rattle.lab_plot.specs.declared.points.Kind.{Kind}
use Rattle.lab_plot.specs.declared.points.Kind.TheVariants.{Cycles, Messages, Loads, Latencies, Compared}
use Rattle.lab_plot.specs.Pieces.{piece}

-- the title of the picture of a table
abbrev pub title_of : Kind → List ℕ
title_of Cycles = codes "What the router does in each petit cycle"
title_of Messages = codes "How long messages took"
title_of Loads = codes "Latency and throughput against load"
title_of Latencies = codes "How long messages took under loads"
title_of Compared = codes "Loads compared"

-- how large a picture is
unfoldable pub size_text : ℕ → List ℕ
size_text height =
    piece (codes "<svg xmlns='http://www.w3.org/2000/svg' version='1.1' width='830' height='") (height / 10)
    ++ piece (codes "' viewBox='0 0 8300 ") height

-- how the words of a picture are set, and its ground
unfoldable pub ground_text : ℕ → List ℕ
ground_text height =
    codes "' font-family='sans-serif' font-size='150' text-anchor='middle'>\n"
    ++ piece (codes "<rect width='8300' fill='white' height='") height ++ codes "'/>\n"

-- a title, as SVG writes it
unfoldable pub title_text : List ℕ → List ℕ
title_text title = codes "<text x='3800' y='370' font-size='200'>" ++ title ++ codes "</text>\n"

-- what stands before the panels of a picture of this height
unfoldable pub picture_head : List ℕ → ℕ → List ℕ
picture_head title height = size_text height ++ ground_text height ++ title_text title
