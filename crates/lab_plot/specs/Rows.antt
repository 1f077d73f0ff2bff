-- The rows of a table, and what is wrong with a line that is none. Ours.
use Rattle.std.specs.Prelude.{ℕ, zero, suc, ◌+◌, ◌==◌, ◌&&◌, Bool, if◌then◌else◌, Option, Some, None, Result, Ok, Err}
use Rattle.std.specs.Prelude.{◌≡◌, ◌≢◌, List, MatchResult, bytes_eq}
use Rattle.std.specs.List.{list_all, range_with_len}
use Rattle.lab_plot.specs.declared.fault.PlotFault.{PlotFault}
use Rattle.lab_plot.specs.declared.fault.PlotFault.TheVariants.{Cell, Large, Memory, Width}
use Rattle.lab_plot.specs.Cells.{cell, is_cell, is_written, width_of}

-- a call answers what a definition gives, where its answer is seen in this way, or memory is out
abbrev pub GivesPlot : {X Y : Type 0} → (X → Y) → Result X PlotFault → Result Y PlotFault → Type 0
GivesPlot view result given = MatchResult result (λ x. given ≡ Ok (view x)) (λ fault. fault ≢ Memory → given ≡ Err fault)

infixl 10 ◌>>=◌
-- what comes after, unless a fault came before
abbrev pub ◌>>=◌ : {A B : Type 0} → Result A PlotFault → (A → Result B PlotFault) → Result B PlotFault
(Ok x) >>= f = f x
(Err fault) >>= f = Err fault

-- a value, unless there is a fault
abbrev pub value_unless : {A : Type 0} → Option PlotFault → A → Result A PlotFault
value_unless None x = Ok x
value_unless (Some fault) x = Err fault

-- a line has the names of another in its columns, whatever blanks stand around them
unfoldable pub has_names : List ℕ → List ℕ → Bool
has_names line other =
    width_of line == width_of other
    && list_all (λ c. bytes_eq (cell line c) (cell other c)) (range_with_len 0 (width_of other))

-- what is wrong with a cell that has neither nothing nor a number
abbrev pub cell_fault : ℕ → ℕ → List ℕ → PlotFault
cell_fault number column bytes = if is_written bytes then Large number column else Cell number column

-- the first fault of so many cells of a line from this column on; faults count columns from 1
unfoldable pub fault_from : ℕ → List ℕ → ℕ → ℕ → Option PlotFault
fault_from number line c zero = None
fault_from number line c (suc more) =
    if is_cell (cell line c) then fault_from number line (c + 1) more
    else Some (cell_fault number (c + 1) (cell line c))

-- the first fault of a line of this number, where a table has so many columns
abbrev pub row_fault : ℕ → ℕ → List ℕ → Option PlotFault
row_fault columns number line =
    if width_of line == columns then fault_from number line 0 columns
    else Some (Width number (width_of line) columns)
