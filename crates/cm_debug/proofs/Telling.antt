-- A line of words, written in parts.
use Rattle.std.proofs.Common.{◌≡◌, ℕ, List, [], ◌∷◌, ◌++◌, append_assoc}
use Rattle.cm_session.specs.Answer.{line}

-- nine parts, put together in two ways
nine_parts : (text word a b c d e f end : List ℕ)
    → text ++ word ++ a ++ b ++ c ++ d ++ e ++ f ++ end
    ≡ text ++ ((word ++ (a ++ (b ++ (c ++ (d ++ (e ++ f)))))) ++ end)
nine_parts text word a b c d e f end = simp append_assoc

-- seven words
pub seven_words : (text word a b c d e f : List ℕ)
    → text ++ word ++ 32 ∷ a ++ 32 ∷ b ++ 32 ∷ c ++ 32 ∷ d ++ 32 ∷ e ++ 32 ∷ f ++ 10 ∷ []
    ≡ text ++ line (word ∷ a ∷ b ∷ c ∷ d ∷ e ∷ f ∷ [])
unfolding line
seven_words text word a b c d e f = nine_parts text word (32 ∷ a) (32 ∷ b) (32 ∷ c) (32 ∷ d) (32 ∷ e) (32 ∷ f) (10 ∷ [])
