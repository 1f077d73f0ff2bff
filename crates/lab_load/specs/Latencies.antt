-- How many messages took how long, and the table that tells it. Ours.
use Rattle.std.specs.Prelude.{ℕ, ◌+◌, ◌-◌, ◌/◌, ◌==◌, List, [], ◌∷◌, ◌++◌, codes, decimal, fold, length, max}
use Rattle.std.specs.Prelude.{slice_index}
use Rattle.std.specs.List.{count_by, flat_map, range_with_len}
use Rattle.cm_model.specs.Each.{tabulate}
use Rattle.lab_load.specs.declared.latencies.Latencies.{Latencies}
use Rattle.lab_counts.specs.Tables.{last_two}
use Rattle.lab_load.specs.Figures.{greatest_latency}

-- so many took just so many petit cycles
abbrev pub took : List ℕ → ℕ → ℕ
took latencies k = count_by (λ x. x == k) latencies

-- how many took no petit cycle, one, two, and so on up to the most that one took
unfoldable pub histogram : List ℕ → List ℕ
histogram latencies = tabulate 0 (greatest_latency latencies + 1) (took latencies)

-- ---- the table

-- the name of a rate's column, behind a comma
abbrev pub rate_name : ℕ → List ℕ
rate_name rate = codes ",rate " ++ decimal (rate / 100) ++ 46 ∷ [] ++ last_two rate

-- the line of names
unfoldable pub latency_header : List Latencies → List ℕ
latency_header loads = codes "latency" ++ flat_map (λ load. rate_name load.rate) loads ++ 10 ∷ []

-- how many took k petit cycles, behind a comma
abbrev pub took_cell : ℕ → List ℕ → List ℕ
took_cell k counts = 44 ∷ decimal (slice_index counts k)

-- the line of k petit cycles
unfoldable pub latency_line : List Latencies → ℕ → List ℕ
latency_line loads k = decimal k ++ flat_map (λ load. took_cell k load.counts.items) loads ++ 10 ∷ []

-- how many counts the longest of these loads has
abbrev pub table_end : List Latencies → ℕ
table_end loads = fold (λ most load. max most (length load.counts.items)) 0 loads

-- the table: a line of names, and a line for each number of petit cycles from one on
unfoldable pub latency_table_of : List Latencies → List ℕ
latency_table_of loads =
    latency_header loads ++ flat_map (λ i. latency_line loads (i + 1)) (range_with_len 0 (table_end loads - 1))
