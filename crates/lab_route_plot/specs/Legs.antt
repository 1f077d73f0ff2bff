-- The legs of a message's way, as the lines of a route tell them. Ours.
use Rattle.std.specs.Prelude.{ℕ, ◌+◌, ◌^◌, ◌==◌, ◌&&◌, ◌||◌, Bool, false, nat_eq, nat_lt, if◌then◌else◌}
use Rattle.std.specs.Prelude.{Option, Some, None, is_some, Result, Ok, Err, List, [], ◌∷◌, ◌++◌, codes, drop, bit_xor}
use Rattle.std.specs.Int.{trailing_zeros, w16}
use Rattle.std.specs.List.{after_first, before_first, list_any, slice_split, starts_with}
use Rattle.cm_bits.specs.Text.{number_of, words_of, is_comma}
use Rattle.lab_plot.specs.Cells.{cell, has_words, is_colon, trimmed}
use Rattle.lab_plot.specs.Rows.{◌>>=◌}
use Rattle.lab_plot.specs.declared.fault.PlotFault.{PlotFault}
use Rattle.lab_plot.specs.declared.fault.PlotFault.TheVariants.{Route}
use Rattle.lab_route_plot.specs.declared.legs.Cycles.{Cycles}
use Rattle.lab_route_plot.specs.Cycles.{is_among_cycles}
use Rattle.lab_route_plot.specs.declared.legs.Leg.{Leg}
use Rattle.lab_route_plot.specs.declared.legs.Step.TheVariants.{Wanted, Referred, Delivered}

-- ---- what a line says

-- a number below another, if there is one
abbrev pub option_below : ℕ → Option ℕ → Option ℕ
option_below limit None = None
option_below limit (Some x) = if nat_lt x limit then Some x else None

-- the petit cycle that a line is of, behind its first word
abbrev pub cycle_behind : List ℕ → Option ℕ
cycle_behind line = option_below (2 ^ 50) (number_of (before_first is_colon (drop 6 line)))

-- the petit cycle that a line is of, if the line begins with the word `cycle`
abbrev pub cycle_in : List ℕ → Option ℕ
cycle_in line = if starts_with nat_eq line (codes "cycle ") then cycle_behind line else None

-- the chip that a word names
abbrev pub chip_of_word : List ℕ → Option ℕ
chip_of_word word = option_below 4096 (number_of word)

-- there is a number, and it is x
abbrev pub is_number : ℕ → Option ℕ → Bool
is_number x None = false
is_number x (Some y) = y == x

-- a part of a line says that the message was referred in a dimension
abbrev pub is_referral : ℕ → List ℕ → Bool
is_referral dim part =
    starts_with nat_eq part (codes " referred in ") && is_number dim (number_of (drop 13 part))

-- a line says that the message was referred in a dimension
abbrev pub is_referred : List ℕ → ℕ → Bool
is_referred line dim = list_any (is_referral dim) (slice_split is_comma line)

-- a part of a line says that the message was delivered
abbrev pub is_delivered_part : List ℕ → Bool
is_delivered_part part = starts_with nat_eq part (codes " delivered")

-- a line says that the message was delivered
abbrev pub says_delivered : List ℕ → Bool
says_delivered line = list_any is_delivered_part (slice_split is_comma line)

-- ---- legs

-- the dimension in which two chips differ
abbrev pub dim_between : ℕ → ℕ → ℕ
dim_between from to = trailing_zeros w16 (bit_xor from to)

-- the leg to a chip from this one before it; or where the petit cycle begins
abbrev pub leg_to : ℕ → List ℕ → Option ℕ → ℕ → Leg
leg_to c line None chip = record { cycle = c; start = 0; end = 0; from = chip; to = chip; step = Wanted }
leg_to c line (Some before) chip = record {
  cycle = c;
  start = dim_between before chip;
  end = dim_between before chip + 1;
  from = before;
  to = chip;
  step = if is_referred line (dim_between before chip) then Referred else Wanted;
}

-- the leg from the last chip to the end of the petit cycle
abbrev pub last_leg : ℕ → List ℕ → ℕ → Leg
last_leg c line chip = record {
  cycle = c + 1;
  start = 0;
  end = 0;
  from = chip;
  to = chip;
  step = if says_delivered line then Delivered else Wanted;
}

-- the leg to the chip of a word, if it names one
abbrev pub legs_at : ℕ → List ℕ → Option ℕ → Option ℕ → List Leg
legs_at c line from None = []
legs_at c line from (Some chip) = leg_to c line from chip ∷ []

-- the chip from which the next leg leads
abbrev pub next_chip : Option ℕ → Option ℕ → Option ℕ
next_chip from None = from
next_chip from (Some chip) = Some chip

-- the leg behind the last word
abbrev pub legs_end : ℕ → List ℕ → Option ℕ → List Leg
legs_end c line None = []
legs_end c line (Some chip) = last_leg c line chip ∷ []

-- the legs to the chips of these words, from this chip on, and to the end of the petit cycle
unfoldable pub legs_from : ℕ → List ℕ → Option ℕ → List (List ℕ) → List Leg
legs_from c line from [] = legs_end c line from
legs_from c line from (word ∷ words) =
    legs_at c line from (chip_of_word word) ++ legs_from c line (next_chip from (chip_of_word word)) words

-- the legs of a petit cycle, if it is one of these: its chips stand before the first comma
abbrev pub cycle_legs : Cycles → List ℕ → Option ℕ → List Leg
cycle_legs cycles line None = []
cycle_legs cycles line (Some c) =
    if is_among_cycles cycles c then legs_from c line None (words_of (after_first is_colon (cell line 0))) else []

-- the legs of a line; a line that tells where the message stands at the end has none
abbrev pub line_legs : Cycles → List ℕ → List Leg
line_legs cycles line = cycle_legs cycles line (cycle_in line)

-- a line is one of a route
abbrev pub is_route_line : List ℕ → Bool
is_route_line line = is_some (cycle_in line) || starts_with nat_eq line (codes "stands at ")

-- the legs so far and those of a line, which has this number and has to be one of a route
abbrev pub legs_told : Cycles → ℕ → List Leg → List ℕ → Result (List Leg) PlotFault
legs_told cycles number legs line =
    if is_route_line line then Ok (legs ++ line_legs cycles line) else Err (Route number)

-- the legs so far and those of a line, whatever blanks stand around the line; a blank line has no legs
abbrev pub legs_with : Cycles → ℕ → List Leg → List ℕ → Result (List Leg) PlotFault
legs_with cycles number legs line = if has_words line then legs_told cycles number legs (trimmed line) else Ok legs

-- the legs so far and those of the lines from this one on, or the first line that is none of a route
unfoldable pub legs_after : Cycles → ℕ → List Leg → List (List ℕ) → Result (List Leg) PlotFault
legs_after cycles number legs [] = Ok legs
legs_after cycles number legs (line ∷ lines) =
    legs_with cycles number legs line >>= λ more. legs_after cycles (number + 1) more lines
