-- What a panel of a picture shows: which columns, and what is written upward. Ours.
use Rattle.std.specs.Prelude.{ℕ, List, codes, min}
use Rattle.std.specs.List.{after_first}
use Rattle.lab_plot.specs.declared.panels.Panel.{Panel}
use Rattle.lab_plot.specs.declared.panels.Panel.TheVariants.{Moved, Held, Latency, Throughput, Bins, Took, Columns}
use Rattle.lab_plot.specs.Cells.{cell, is_colon}

-- what is written upward: where columns are compared, what stands behind the colon in the first line's first cell
abbrev pub label_of : Panel → List ℕ → List ℕ
label_of Moved header = codes "messages"
label_of Held header = codes "routers, processors"
label_of Latency header = codes "latency in petit cycles"
label_of Throughput header = codes "throughput of a chip"
label_of Bins header = codes "messages"
label_of (Took count) header = codes "messages"
label_of (Columns count) header = after_first is_colon (cell header 0)

-- the first column that a panel shows
abbrev pub first_column : Panel → ℕ
first_column Moved = 1
first_column Held = 5
first_column Latency = 5
first_column Throughput = 4
first_column Bins = 1
first_column (Took count) = 1
first_column (Columns count) = 1

-- how many columns a panel shows: nine at most
abbrev pub columns_shown : Panel → ℕ
columns_shown Moved = 4
columns_shown Held = 2
columns_shown Latency = 2
columns_shown Throughput = 1
columns_shown Bins = 1
columns_shown (Took count) = min count 9
columns_shown (Columns count) = min count 9

-- ticks upward stand at whole numbers; at thousandths, where numbers are not whole
abbrev pub unit_of : Panel → ℕ
unit_of Moved = 1000
unit_of Held = 1000
unit_of Latency = 1
unit_of Throughput = 1
unit_of Bins = 1000
unit_of (Took count) = 1000
unit_of (Columns count) = 1
