-- Choosing one of several truth values by others. Ours.
use Rattle.std.specs.Prelude.{Bool, cond}

-- of four values the one that b and f choose
abbrev pub chosen_of_four : Bool → Bool → Bool → Bool → Bool → Bool → Bool
chosen_of_four b f neither by_f by_b by_both = cond b (cond f by_both by_b) (cond f by_f neither)
