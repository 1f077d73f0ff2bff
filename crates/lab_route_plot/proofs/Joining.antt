-- Bytes, one piece behind another.
use Rattle.std.proofs.Common.{◌≡◌, List, ◌++◌, Result, Ok, Err, OnOk, ap, ◌∙◌, append_assoc}

-- what came first, and what came behind it
pub behind : {X : Type 0} (start first rest before after : List X) → before ≡ start ++ first → after ≡ before ++ rest
    → after ≡ start ++ (first ++ rest)
behind start first rest before after is more =
    more ∙ ap (λ xs. xs ++ rest) is ∙ append_assoc start first rest

-- the same, where a call may have failed
pub behind-ok : {X E V : Type 0} (r : Result V E) (start first rest before after : List X) → before ≡ start ++ first
    → OnOk r (after ≡ before ++ rest) → OnOk r (after ≡ start ++ (first ++ rest))
behind-ok (Ok v) start first rest before after is more = behind start first rest before after is more
behind-ok (Err e) start first rest before after is more = more
