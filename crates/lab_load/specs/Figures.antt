-- The numbers of a load: what was offered, and what became of it. Ours.
use Rattle.std.specs.Prelude.{◌≡◌, ℕ, ◌+◌, ◌-◌, ◌*◌, ◌/◌, ◌^◌, ◌==◌, Bool, List, Option, length, max, fold, nat_le, sum_by, if◌then◌else◌}
use Rattle.std.specs.List.{count_by, find, range_with_len}
use Rattle.lab_load.specs.declared.offers.Load.{Load}
use Rattle.lab_counts.specs.declared.counts.Counts.{Counts}
use Rattle.lab_load.specs.declared.figures.Figures.{Figures}
use Rattle.lab_load.specs.Loaded.{Loaded, offered_in}

-- how many of so many messages each of so many turns delivers, in thousandths, rounded down; 0 of no turn
abbrev pub throughput_of : ℕ → ℕ → ℕ
throughput_of delivered turns = if turns == 0 then 0 else 1000 * delivered / turns

-- the mean in hundredths, rounded down; 0 of no message
abbrev pub mean_of : List ℕ → ℕ
mean_of latencies =
    if length latencies == 0 then 0 else 100 * sum_by (λ x. x) latencies / length latencies

-- at least so many hundredths are of messages that took no more than so many petit cycles
abbrev pub is_reached : List ℕ → ℕ → ℕ → Bool
is_reached latencies hundredths most =
    nat_le hundredths (100 * count_by (λ x. nat_le x most) latencies)

-- the least number of petit cycles, up to the last of these, within which 95 in a hundred were delivered
abbrev pub most_of : ℕ → List ℕ → Option ℕ
most_of cycles latencies = find (is_reached latencies (95 * length latencies)) (range_with_len 0 (cycles + 1))

-- the greatest, or 0
abbrev pub greatest_latency : List ℕ → ℕ
greatest_latency latencies = fold max 0 latencies

-- the numbers of a load after so many petit cycles, which left this, without the first so many; and what was counted
pub record AreFigures (load : Load) (skip cycles : ℕ) (loaded : Loaded) (counts : Counts) (figures : Figures) : Type 0 where
  pub rate : figures.rate ≡ load.rate
  pub offered : figures.offered ≡ offered_in load cycles - offered_in load skip
  pub taken : figures.taken ≡ loaded.taken
  pub delivered : figures.delivered ≡ length loaded.latencies
  -- a turn is a petit cycle of a chip
  pub throughput : figures.throughput ≡ throughput_of (length loaded.latencies) (2 ^ load.dims * (cycles - skip))
  pub mean : figures.mean ≡ mean_of loaded.latencies
  pub most : figures.most ≡ most_of cycles loaded.latencies
  pub greatest : figures.greatest ≡ greatest_latency loaded.latencies
  pub deepest : figures.deepest ≡ loaded.deepest
  pub counts_are : figures.counts ≡ counts
