-- Loads that differ in their seeds alone: the mean of a column, and the half width of its interval of 95 in a hundred,
-- by the t distribution of Student, 1908.
use Rattle.std.specs.Prelude.{◌≡◌, false, ℕ, ◌+◌, ◌-◌, ◌*◌, ◌/◌, ◌%◌, ◌^◌, ◌<◌, ◌≤◌, List, Option, Some, None}
use Rattle.std.specs.Prelude.{get_or, length, min, sum_by, slice_index}
use Rattle.lab_fresh.specs.declared.blanks.WireEnd.{WireEnd}
use Rattle.lab_load.specs.declared.figures.Figures.{Figures}
use Rattle.lab_load.specs.declared.spreads.Column.{Column}
use Rattle.lab_load.specs.declared.spreads.Column.TheVariants.{Throughput, Mean, Most, Greatest}
use Rattle.lab_load.specs.declared.spreads.Spread.{Spread}
use Rattle.lab_load.specs.declared.spreads.Spreads.{Spreads}
use Rattle.lab_load.specs.declared.spreads.TheConstants.{QUANTILES}
use Rattle.lab_load.specs.declared.trials.Trial.{Trial}
use Rattle.lab_counts.specs.Counts.{nothing_counted}
use Rattle.lab_load.specs.Trials.{AreFiguresOf}

-- the load of the seed that comes so many behind this one
abbrev pub seeded : Trial → ℕ → Trial
seeded trial k = record trial { seed = (trial.seed + k) % 2 ^ 64 }

-- ---- one column

-- a number, or the greatest of 39 bits
abbrev pub capped : ℕ → ℕ
capped x = min x (2 ^ 39 - 1)

-- a number, or 0 where there is none
abbrev pub or_zero : Option ℕ → ℕ
or_zero None = 0
or_zero (Some x) = x

-- the number of a load in a column: of the throughput in thousandths, else in hundredths
abbrev pub figure_in : Column → Figures → ℕ
figure_in Throughput figures = capped figures.throughput
figure_in Mean figures = capped figures.mean
figure_in Most figures = 100 * or_zero figures.most
figure_in Greatest figures = 100 * figures.greatest

-- all but 25 in a thousand of so many numbers' means are below so many standard errors, in thousandths; of more than 31
-- as of 31
abbrev pub quantile_of : ℕ → ℕ
quantile_of count = slice_index QUANTILES (min (count - 2) 29)

-- how many numbers times the sum of their squares, less the square of their sum
abbrev pub scatter : Column → List Figures → ℕ
scatter column loads =
    length loads * sum_by (λ figures. figure_in column figures * figure_in column figures) loads
    - sum_by (figure_in column) loads * sum_by (figure_in column) loads

-- the square of the half width: that of the quantile times the variance, by how many there are, rounded down
abbrev pub half_squared : Column → List Figures → ℕ
half_squared column loads =
    quantile_of (length loads) * quantile_of (length loads) * scatter column loads
    / (1000000 * (length loads * length loads * (length loads - 1)))

-- the mean and the half width of a column of these loads, rounded down
pub record IsSpread (column : Column) (loads : List Figures) (spread : Spread) : Type 0 where
  pub mean : spread.mean ≡ sum_by (figure_in column) loads / length loads
  pub least : spread.half * spread.half ≤ half_squared column loads
  pub most : half_squared column loads < (spread.half + 1) * (spread.half + 1)

-- worked: a load of this throughput alone
abbrev pub figures_with : ℕ → Figures
figures_with throughput = record {
  rate = 0;
  offered = 0;
  taken = 0;
  delivered = 0;
  throughput = throughput;
  mean = 0;
  most = None;
  greatest = 0;
  deepest = 0;
  counts = nothing_counted false;
}

-- ---- all of them

-- those of the columns of loads of a rate
pub record AreSpreads (rate : ℕ) (loads : List Figures) (spreads : Spreads) : Type 0 where
  pub rate_is : spreads.rate ≡ rate
  pub throughput : IsSpread Throughput loads spreads.throughput
  pub mean : IsSpread Mean loads spreads.mean
  pub most : IsSpread Most loads spreads.most
  pub greatest : IsSpread Greatest loads spreads.greatest

-- what a trial of several seeds answers at a rate: those of its loads of each seed
pub record AreSpreadsOf (trial : Trial) (targets : List ℕ) (cuts : List WireEnd) (rate : ℕ) (spreads : Spreads)
    : Type 0 where
  pub loads : List Figures
  pub count : length loads ≡ trial.seeds
  pub each : (k : ℕ) (d : Figures) → k < length loads → AreFiguresOf (seeded trial k) targets cuts rate
      (get_or loads k d)
  pub are : AreSpreads rate loads spreads
