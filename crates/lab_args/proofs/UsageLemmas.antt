-- The words of help, line by line.
use Rattle.std.proofs.Common.{◌≡◌, ℕ, List, [], ◌∷◌, ◌++◌, map, refl}
use Rattle.std.specs.Prelude.{fold}
use Rattle.std.specs.Borrow.{Bor}

-- what one line more adds to what was folded so far
pub one_line_more : {A : Type 0} (f : A → List ℕ → A) (first : A) (lines : List (Bor (List ℕ))) (line : Bor (List ℕ))
    → fold f first (map (λ l. l.now) (lines ++ line ∷ [])) ≡ f (fold f first (map (λ l. l.now) lines)) line.now
one_line_more f first [] line = refl
one_line_more f first (next ∷ lines) line = one_line_more f (f first next.now) lines line
