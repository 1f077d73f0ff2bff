-- The table of loads, as a text: numbers in columns, with a comma between them. Ours.
use Rattle.std.specs.Prelude.{ℕ, ◌/◌, List, [], ◌∷◌, ◌++◌, Option, Some, None, codes, decimal, min, take}
use Rattle.std.specs.List.{flat_map}
use Rattle.cm_bits.specs.Text.{number_cell, last_number_cell}
use Rattle.lab_counts.specs.declared.crossings.Crossings.{Crossings}
use Rattle.lab_load.specs.declared.figures.Figures.{Figures}
use Rattle.lab_load.specs.declared.spreads.Spread.{Spread}
use Rattle.lab_load.specs.declared.spreads.Spreads.{Spreads}
use Rattle.lab_counts.specs.Crossings.{in_all}
use Rattle.lab_counts.specs.Tables.{last_digit, last_two, hundredths_text, counted_lines}

-- ---- numbers

-- so many thousandths: three digits
abbrev pub thousandths : ℕ → List ℕ
thousandths x = decimal (x / 1000) ++ 46 ∷ [] ++ last_digit (x / 100) ++ last_two x ++ 44 ∷ []

-- a number and the comma, or the comma alone
abbrev pub column_if : Option ℕ → List ℕ
column_if None = 44 ∷ []
column_if (Some x) = number_cell x

-- ---- loads

-- the names of its columns
abbrev pub loads_header : List ℕ
loads_header = codes "rate,offered,taken,delivered,throughput,mean,p95,greatest,deepest\n"

-- what was offered
abbrev pub offer_columns : Figures → List ℕ
offer_columns figures = hundredths_text figures.rate ++ number_cell figures.offered

-- what became of it
abbrev pub message_columns : Figures → List ℕ
message_columns figures =
    number_cell figures.taken ++ number_cell figures.delivered ++ thousandths figures.throughput

-- how long that took
abbrev pub latency_columns : Figures → List ℕ
latency_columns figures =
    hundredths_text figures.mean ++ column_if figures.most ++ number_cell figures.greatest

-- the line of a load
unfoldable pub load_line : Figures → List ℕ
load_line figures =
    offer_columns figures ++ message_columns figures ++ latency_columns figures ++ last_number_cell figures.deepest

-- the table: a line of names, and a line for each load
unfoldable pub loads_table : List Figures → List ℕ
loads_table loads = loads_header ++ flat_map load_line loads

-- ---- what is counted beside

-- the names of its columns: those of loads, and others behind them
abbrev pub crossing_header : List ℕ
crossing_header =
    codes "rate,offered,taken,delivered,throughput,mean,p95,greatest,deepest,crossed,referred,refused,quiet\n"

-- how often messages crossed a dimension, were referred over one, and were refused
abbrev pub crossing_columns : Crossings → List ℕ
crossing_columns crossings =
    number_cell crossings.crossed ++ number_cell crossings.referred ++ number_cell crossings.refused

-- the line of a load
unfoldable pub crossing_line : Figures → List ℕ
crossing_line figures =
    offer_columns figures ++ message_columns figures ++ latency_columns figures ++ number_cell figures.deepest
    ++ crossing_columns (in_all figures.counts.dims) ++ last_number_cell figures.counts.quiet

-- the table: a line of names, and a line for each load
unfoldable pub crossing_table_of : List Figures → List ℕ
crossing_table_of loads = crossing_header ++ flat_map crossing_line loads

-- the names of the columns by dimension
abbrev pub dimension_header : List ℕ
dimension_header = codes "rate,dimension,crossed,referred,refused\n"

-- the lines of a load on a cube of n dimensions, at most twelve
abbrev pub dimension_lines : ℕ → Figures → List ℕ
dimension_lines n figures = counted_lines figures.rate 0 (take (min n 12) figures.counts.dims)

-- the table: a line of names, and for each load a line for each dimension
unfoldable pub dimension_table_of : ℕ → List Figures → List ℕ
dimension_table_of n loads = dimension_header ++ flat_map (dimension_lines n) loads

-- ---- loads of many seeds

-- so many hundredths at the end of a line
abbrev pub last_hundredths : ℕ → List ℕ
last_hundredths x = decimal (x / 100) ++ 46 ∷ [] ++ last_two x ++ 10 ∷ []

-- the names of its columns: behind each mean its half width
abbrev pub spread_header : List ℕ
spread_header = codes "rate,throughput,throughput +-,mean,mean +-,p95,p95 +-,greatest,greatest +-\n"

-- a mean and a half width in hundredths
abbrev pub spread_columns : Spread → List ℕ
spread_columns spread = hundredths_text spread.mean ++ hundredths_text spread.half

-- what was delivered
abbrev pub throughput_columns : Spreads → List ℕ
throughput_columns spreads =
    hundredths_text spreads.rate ++ thousandths spreads.throughput.mean ++ thousandths spreads.throughput.half

-- the line of loads of a rate
unfoldable pub spread_line : Spreads → List ℕ
spread_line spreads =
    throughput_columns spreads ++ spread_columns spreads.mean ++ spread_columns spreads.most
    ++ hundredths_text spreads.greatest.mean ++ last_hundredths spreads.greatest.half

-- the table: a line of names, and a line for each rate
unfoldable pub spread_table_of : List Spreads → List ℕ
spread_table_of rates = spread_header ++ flat_map spread_line rates
