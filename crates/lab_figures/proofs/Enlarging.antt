-- Places of a picture that is so many times as large, row by row.
use Rattle.std.proofs.Common.{◌≡◌, ℕ, ◌+◌, ◌*◌, List, [], ◌∷◌, ◌++◌, length, length-append, arith}

-- how many dots stand there behind one more
pub one_longer : {X : Type 0} (before after : List X) (x : X) (start done : ℕ) → length before ≡ start + done
    → after ≡ before ++ x ∷ [] → length after ≡ start + (done + 1)
one_longer before after x start done counted more = rw more (omega (arith, counted, length-append before (x ∷ [])))

-- and behind one row more
pub row_longer : (y wide before after : ℕ) → before ≡ y * wide → after ≡ before + wide → after ≡ (y + 1) * wide
row_longer y wide before after counted more = omega (arith, counted, more)
