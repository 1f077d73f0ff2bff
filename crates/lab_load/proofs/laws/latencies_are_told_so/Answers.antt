use Rattle.std.proofs.Common.{◌≡◌, ℕ, ◌+◌, ◌-◌, List, [], ◌∷◌, ◌++◌, codes, decimal, length, max, refl, ◌∙◌}
use Rattle.std.specs.Fmt.{digits}
use Rattle.std.specs.List.{flat_map, range_with_len}
use Rattle.cm_model.specs.Each.{tabulate}
use Rattle.lab_load.specs.declared.latencies.Latencies.{Latencies}
use Rattle.lab_load.specs.Latencies.{histogram, latency_header, latency_line, latency_table_of, rate_name, took_cell}
use Rattle.lab_load.proofs.laws.latencies_are_told_so.Goals as goal

-- the table of loads of two rates, by their counts
abbrev two_columns : ℕ → ℕ → List ℕ → List ℕ → List ℕ
two_columns low high lows highs =
    (codes "latency" ++ (rate_name low ++ (rate_name high ++ [])) ++ 10 ∷ [])
    ++ flat_map (λ i. decimal (i + 1) ++ (took_cell (i + 1) lows ++ (took_cell (i + 1) highs ++ [])) ++ 10 ∷ [])
    (range_with_len 0 (max (max 0 (length lows)) (length highs) - 1))

of_two : (low high : Latencies)
    → latency_table_of (low ∷ high ∷ []) ≡ two_columns low.rate high.rate low.counts.items high.counts.items
unfolding latency_table_of latency_header latency_line
of_two low high = refl

worked : two_columns 100 400 (0 ∷ 0 ∷ 0 ∷ 1 ∷ []) (0 ∷ 0 ∷ 1 ∷ [])
    ≡ codes "latency,rate 1.00,rate 4.00\n1,0,0\n2,0,1\n3,1,0\n"
unfolding digits
worked = refl

table_of_two : (low high : Latencies) → low.rate ≡ 100 → high.rate ≡ 400
    → low.counts.items ≡ 0 ∷ 0 ∷ 0 ∷ 1 ∷ [] → high.counts.items ≡ 0 ∷ 0 ∷ 1 ∷ []
    → latency_table_of (low ∷ high ∷ []) ≡ codes "latency,rate 1.00,rate 4.00\n1,0,0\n2,0,1\n3,1,0\n"
table_of_two low high low_rate high_rate lows highs =
    of_two low high ∙ ((λ i. two_columns (low_rate i) (high_rate i) (lows i) (highs i)) ∙ worked)

pub returns : goal.returns
unfolding histogram tabulate digits
returns c =
    record { counted = refl; none = refl; name = refl; cell = refl; behind = refl; table = table_of_two }
