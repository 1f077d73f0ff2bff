-- Wires of a cube that are drawn, to be cut: selection sampling of Fan, Muller and Rezucha, 1962.
use Rattle.std.specs.Prelude.{ℕ, suc, zero, ◌+◌, ◌-◌, ◌*◌, ◌/◌, ◌%◌, ◌^◌, Bool, List, [], ◌∷◌, ◌++◌, Result, Ok, Err}
use Rattle.std.specs.Prelude.{length, nat_lt, if◌then◌else◌}
use Rattle.cm_router.specs.Cuts.{most_wires}
use Rattle.lab_fresh.specs.declared.blanks.WireEnd.{WireEnd}
use Rattle.lab_fresh.specs.declared.blanks.FreshFault.{FreshFault}
use Rattle.lab_fresh.specs.declared.blanks.FreshFault.TheVariants.{Dimension, Drawn}
use Rattle.lab_fresh.specs.Draws.{draw_of}

-- wire j of those over dimension d, named by its lower end: j with a bit 0 put in at place d
abbrev pub lower_end : ℕ → ℕ → WireEnd
lower_end d j = record { chip = j / 2 ^ d * (2 * 2 ^ d) + j % 2 ^ d; dim = d }

-- wire i of a cube of n dimensions: dimension by dimension, over each of which it has half as many as chips
abbrev pub wire_end : ℕ → ℕ → WireEnd
wire_end n i = lower_end (i / 2 ^ (n - 1)) (i % 2 ^ (n - 1))

-- wire i is drawn where so many of a cube's wires were before it: those that are wanted are drawn of those that are left
abbrev pub is_drawn : ℕ → ℕ → ℕ → ℕ → ℕ → Bool
is_drawn n count seed i before =
    nat_lt (draw_of seed (2 ^ 62 + i) % (most_wires n - i)) (count - before)

-- the wires that were drawn, and wire i if it is
abbrev pub with_drawn : ℕ → ℕ → ℕ → ℕ → List WireEnd → List WireEnd
with_drawn n count seed i ends =
    if is_drawn n count seed i (length ends) then ends ++ wire_end n i ∷ [] else ends

-- of the first so many wires of a cube of n dimensions those that are drawn, of all so many
unfoldable pub drawn_of_first : ℕ → ℕ → ℕ → ℕ → List WireEnd
drawn_of_first n count seed zero = []
drawn_of_first n count seed (suc i) = with_drawn n count seed i (drawn_of_first n count seed i)

-- so many wires of a cube of n dimensions, drawn by this seed
abbrev pub drawn_wires : ℕ → ℕ → ℕ → List WireEnd
drawn_wires n count seed = drawn_of_first n count seed (most_wires n)

-- the wires that are named, and behind them so many that are drawn; or the first fault: of the dimension, of the number
abbrev pub cut_wires_of : ℕ → List WireEnd → ℕ → ℕ → Result (List WireEnd) FreshFault
cut_wires_of n named count seed =
    if nat_lt 12 n then Err (Dimension n)
    else if nat_lt (most_wires n) count then Err (Drawn (most_wires n) count)
    else Ok (named ++ drawn_wires n count seed)
