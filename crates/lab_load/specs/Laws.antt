-- Laws of loads, each the contract of a function of its name: values that are known from elsewhere. Ours.
use Rattle.std.specs.Prelude.{◌≡◌, ◌≤◌, ◌%◌, ℕ, [], ◌∷◌, codes, false, true, map, None, Some}
use Rattle.cm_model.specs.Wiring.{Routing}
use Rattle.lab_counts.specs.Crossings.{in_all}
use Rattle.lab_load.specs.declared.offers.Pattern.TheVariants as pattern
use Rattle.lab_load.specs.declared.offers.Load.{Load}
use Rattle.lab_load.specs.Offers.{aimed}
use Rattle.lab_load.specs.Counted.{counts_for, chips_for}
use Rattle.lab_counts.specs.Counts.{nothing_counted}
use Rattle.lab_load.specs.Figures.{greatest_latency, mean_of, most_of, throughput_of}
use Rattle.lab_load.specs.declared.latencies.Latencies.{Latencies}
use Rattle.lab_load.specs.Latencies.{histogram, rate_name, took_cell, latency_table_of}
use Rattle.lab_load.specs.declared.spreads.Column.TheVariants.{Throughput}
use Rattle.lab_load.specs.Spreads.{quantile_of, half_squared, figures_with}
use Rattle.lab_load.specs.Tables.{load_line, spread_line}
use Rattle.lab_load.specs.declared.trials.LoadFault.TheVariants as fault
use Rattle.lab_load.specs.declared.trials.LoadTable.TheVariants as shown
use Rattle.lab_load.specs.Trials.{trial_fault, trial_with}

-- under every load all chips together and all dimensions together have the same crossings, referrals and refusals
abbrev pub ChipsAndDimensionsAgree : Type 0
ChipsAndDimensionsAgree = (cap : ℕ) (load : Load) (routing : Routing) (skip cycles : ℕ) → load.dims ≤ 12
    → in_all (chips_for cap load routing skip cycles) ≡ in_all (counts_for true cap load routing skip cycles).dims

-- on four chips a place has six bits, on eight seven: of these places messages go to those, whatever is drawn
pub record PatternsAimSo : Type 0 where
  pub halves : aimed pattern.Transpose [] 2 0 0b000_110 % 64 ≡ 0b110_000
  pub long_half : aimed pattern.Transpose [] 3 0 0b0001_011 % 128 ≡ 0b011_0001
  pub turned : aimed pattern.Reversal [] 2 0 0b000110 ≡ 0b011000
  pub hot : aimed pattern.HotSpot [] 2 0 0b10_1101 ≡ 0b1101
  pub own : aimed pattern.Own (7 ∷ 0 ∷ 5 ∷ []) 0 9 2 ≡ 5
  pub behind : aimed pattern.Own (7 ∷ 0 ∷ 5 ∷ []) 0 9 3 ≡ 0

-- of three messages, and of none: how long they took; and the line of a load
pub record LoadsAreToldSo : Type 0 where
  pub mean : mean_of (1 ∷ 2 ∷ 2 ∷ []) ≡ 166
  pub most : most_of 9 (1 ∷ 2 ∷ 2 ∷ []) ≡ Some 2
  pub greatest : greatest_latency (1 ∷ 5 ∷ 2 ∷ []) ≡ 5
  pub throughput : throughput_of 51010 102400 ≡ 498
  pub no_mean : mean_of [] ≡ 0
  pub no_most : most_of 9 [] ≡ Some 0
  pub slower : most_of 1 (1 ∷ 2 ∷ 2 ∷ []) ≡ None
  pub line : load_line
      (record {
        rate = 50;
        offered = 51084;
        taken = 51083;
        delivered = 51010;
        throughput = 498;
        mean = 140;
        most = Some 2;
        greatest = 5;
        deepest = 0;
        counts = nothing_counted false;
      })
      ≡ codes "0.50,51084,51083,51010,0.498,1.40,2,5,0\n"

-- of four messages, and of none: how many took how long; the name of a rate's column, cells of a line, and the table
-- of two loads, under each of which one message was delivered
pub record LatenciesAreToldSo : Type 0 where
  pub counted : histogram (1 ∷ 3 ∷ 1 ∷ 4 ∷ []) ≡ 0 ∷ 2 ∷ 0 ∷ 1 ∷ 1 ∷ []
  pub none : histogram [] ≡ 0 ∷ []
  pub name : rate_name 1605 ≡ codes ",rate 16.05"
  pub cell : took_cell 2 (0 ∷ 411 ∷ 491 ∷ []) ≡ codes ",491"
  pub behind : took_cell 3 (0 ∷ 411 ∷ 491 ∷ []) ≡ codes ",0"
  pub table : (low high : Latencies) → low.rate ≡ 100 → high.rate ≡ 400
      → low.counts.items ≡ 0 ∷ 0 ∷ 0 ∷ 1 ∷ [] → high.counts.items ≡ 0 ∷ 0 ∷ 1 ∷ []
      → latency_table_of (low ∷ high ∷ []) ≡ codes "latency,rate 1.00,rate 4.00\n1,0,0\n2,0,1\n3,1,0\n"

-- quantiles; the square of the half width of two loads, that of 12.707 times half their difference; and the line of the
-- loads of a rate
pub record SpreadsAreToldSo : Type 0 where
  pub first_quantiles : map quantile_of (2 ∷ 3 ∷ 4 ∷ 5 ∷ 6 ∷ 7 ∷ 8 ∷ 9 ∷ 10 ∷ 11 ∷ [])
      ≡ 12707 ∷ 4303 ∷ 3183 ∷ 2777 ∷ 2571 ∷ 2447 ∷ 2365 ∷ 2307 ∷ 2263 ∷ 2229 ∷ []
  pub last_quantile : quantile_of 31 ≡ 2043
  pub later_quantile : quantile_of 1000 ≡ 2043
  pub of_two : half_squared Throughput (figures_with 3733 ∷ figures_with 4000 ∷ []) ≡ 2877720
  pub of_like_ones : half_squared Throughput (figures_with 3733 ∷ figures_with 3733 ∷ []) ≡ 0
  pub line : spread_line
      (record {
        rate = 425;
        throughput = record { mean = 3866; half = 1696 };
        mean = record { mean = 210; half = 412 };
        most = record { mean = 950; half = 3176 };
        greatest = record { mean = 1200; half = 3812 };
      })
      ≡ codes "4.25,3.866,1.696,2.10,4.12,9.50,31.76,12.00,38.12\n"

-- a trial in which nothing is in its range has this first fault; with this one mended it has the next one, and so on
pub record FaultsComeInOrder : Type 0 where
  pub dimension : trial_fault (trial_with 13 16 0 9 0 2 101 shown.Crossings) [] (1601 ∷ []) ≡ Some (fault.Dimension 13)
  pub room : trial_fault (trial_with 12 16 0 9 0 2 101 shown.Crossings) (record { chip = 4096; dim = 0 } ∷ [])
      (1601 ∷ []) ≡ Some (fault.Room 16)
  pub wire : trial_fault (trial_with 12 15 0 9 0 2 101 shown.Crossings) (record { chip = 4096; dim = 0 } ∷ [])
      (1601 ∷ []) ≡ Some (fault.Wire 12 4096 0)
  pub rate : trial_fault (trial_with 12 15 0 9 0 2 101 shown.Crossings) (record { chip = 4095; dim = 11 } ∷ [])
      (1600 ∷ 1601 ∷ []) ≡ Some (fault.Rate 1601)
  pub cycles : trial_fault (trial_with 12 15 0 9 0 2 101 shown.Crossings) [] (1600 ∷ []) ≡ Some (fault.Cycles 0)
  pub skip : trial_fault (trial_with 12 15 9 9 0 2 101 shown.Crossings) [] (1600 ∷ []) ≡ Some (fault.Skip 9 9)
  pub seeds : trial_fault (trial_with 12 15 10 9 0 2 101 shown.Crossings) [] (1600 ∷ []) ≡ Some (fault.Seeds 0)
  pub rule : trial_fault (trial_with 12 15 10 9 2 2 101 shown.Crossings) [] (1600 ∷ []) ≡ Some (fault.Rule 2)
  pub background : trial_fault (trial_with 12 15 10 9 2 1 101 shown.Crossings) [] (1600 ∷ [])
      ≡ Some (fault.Background 101)
  pub table : trial_fault (trial_with 12 15 10 9 2 1 100 shown.Crossings) [] (1600 ∷ []) ≡ Some (fault.Table 2)
  pub none : trial_fault (trial_with 12 15 1000000 9 1000 1 100 shown.Plain) [] (1600 ∷ []) ≡ None
