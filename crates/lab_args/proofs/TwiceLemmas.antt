-- A word among words.
use Rattle.std.proofs.Common.{◌≡◌, ℕ, Bool, ◌||◌, List, [], ◌∷◌, bytes_eq, refl, ap}
use Rattle.std.specs.List.{list_any}
use Rattle.std.specs.Borrow.{Bor}
use Rattle.lab_args.specs.Words.{texts}

-- whether a word is among words is asked of their texts
pub among_texts : (word : List ℕ) (words : List (Bor (List ℕ)))
    → list_any (λ other. bytes_eq other.now word) words ≡ list_any (λ other. bytes_eq other word) (texts words)
among_texts word [] = refl
among_texts word (w ∷ words) = ap (λ (b : Bool). bytes_eq w.now word || b) (among_texts word words)
