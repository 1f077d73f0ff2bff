-- The lines of a table, one after another.
use Rattle.std.proofs.Common.{◌≡◌, ℕ, zero, suc, ◌+◌, ◌<◌, Bool, true, false, List, ◌∷◌, Option, Some, None, Result, Ok, Err}
use Rattle.std.proofs.Common.{ap, ◌∙◌, arith, if◌then◌else◌}
use Rattle.lab_plot.specs.declared.points.Kind.{Kind}
use Rattle.lab_plot.specs.declared.points.Point.{Point}
use Rattle.lab_plot.specs.declared.fault.PlotFault.{PlotFault}
use Rattle.lab_plot.specs.Cells.{cell, has_words, is_cell}
use Rattle.lab_plot.specs.Pictures.{fault_of, head_fault, of_header, of_lines}
use Rattle.lab_plot.specs.Points.{points_with, points_after, table_kind}
use Rattle.lab_plot.specs.Rows.{◌>>=◌, cell_fault, fault_from}

-- ---- the cells of a line

-- what the cells from this one on give, where it is a cell or not
from_cell : ℕ → List ℕ → ℕ → ℕ → Bool → Option PlotFault
from_cell number line c more is =
    if is then fault_from number line (c + 1) more else Some (cell_fault number (c + 1) (cell line c))

-- this one is none
pub fault_from-here : (number : ℕ) (line : List ℕ) (c left : ℕ) → 0 < left → is_cell (cell line c) ≡ false
    → fault_from number line c left ≡ Some (cell_fault number (c + 1) (cell line c))
unfolding fault_from from_cell
fault_from-here number line c zero some is = absurd (omega arith)
fault_from-here number line c (suc more) some is = ap (from_cell number line c more) is

-- it is one
pub fault_from-next : (number : ℕ) (line : List ℕ) (c left more : ℕ) → left ≡ suc more → is_cell (cell line c) ≡ true
    → fault_from number line c left ≡ fault_from number line (c + 1) more
unfolding fault_from from_cell
fault_from-next number line c left more next is =
    ap (λ (k : ℕ). fault_from number line c k) next ∙ ap (from_cell number line c more) is

-- no cell is left
pub fault_from-none : (number : ℕ) (line : List ℕ) (c left : ℕ) → left ≡ 0 → fault_from number line c left ≡ None
unfolding fault_from
fault_from-none number line c left none = ap (λ (k : ℕ). fault_from number line c k) none

-- ---- lines

-- a line, and the lines behind it
pub after_one_line : (kind : Kind) (columns number : ℕ) (points : List Point) (line : List ℕ) (lines : List (List ℕ))
    (r : Result (List Point) PlotFault) → points_with kind columns number points line ≡ r
    → points_after kind columns number points (line ∷ lines)
    ≡ (r >>= λ more. points_after kind columns (number + 1) more lines)
unfolding points_after
after_one_line kind columns number points line lines r e =
    ap (λ (q : Result (List Point) PlotFault). q >>= λ more. points_after kind columns (number + 1) more lines) e

-- a text's first line, where it has words or not
from_line : ℕ → List ℕ → List (List ℕ) → Bool → Result (List ℕ) PlotFault
from_line number line lines has = if has then of_header number line lines else of_lines (number + 1) lines

-- it has
pub of_lines-words : (number : ℕ) (line : List ℕ) (lines : List (List ℕ)) → has_words line ≡ true
    → of_lines number (line ∷ lines) ≡ of_header number line lines
unfolding of_lines from_line
of_lines-words number line lines has = ap (from_line number line lines) has

-- it is blank
pub of_lines-blank : (number : ℕ) (line : List ℕ) (lines : List (List ℕ)) → has_words line ≡ false
    → of_lines number (line ∷ lines) ≡ of_lines (number + 1) lines
unfolding of_lines from_line
of_lines-blank number line lines has = ap (from_line number line lines) has

-- the same of what is wrong before a table begins
head_line : ℕ → List ℕ → List (List ℕ) → Bool → Option PlotFault
head_line number line lines has = if has then fault_of (table_kind number line) else head_fault (number + 1) lines

pub head_fault-words : (number : ℕ) (line : List ℕ) (lines : List (List ℕ)) → has_words line ≡ true
    → head_fault number (line ∷ lines) ≡ fault_of (table_kind number line)
unfolding head_fault head_line
head_fault-words number line lines has = ap (head_line number line lines) has

pub head_fault-blank : (number : ℕ) (line : List ℕ) (lines : List (List ℕ)) → has_words line ≡ false
    → head_fault number (line ∷ lines) ≡ head_fault (number + 1) lines
unfolding head_fault head_line
head_fault-blank number line lines has = ap (head_line number line lines) has

-- a fault that there is
pub fault_of-some : {A : Type 0} (r : Result A PlotFault) (fault : PlotFault) → fault_of r ≡ Some fault → r ≡ Err fault
fault_of-some (Ok x) fault e = grind (arith, e)
fault_of-some (Err other) fault e = grind (arith, e)
