-- A list that numbers from 0 on make, one number more.
use Rattle.std.proofs.Common.{◌≡◌, ℕ, ◌+◌, [], ◌∷◌, ◌++◌, arith}
use Rattle.std.proofs.lemmas.List.FromFn.{map-range_with_len_more}
use Rattle.cm_model.specs.Each.{tabulate}

-- what the last number makes comes behind
pub tabulate-more : {X : Type 0} (f : ℕ → X) (count : ℕ)
    → tabulate 0 (count + 1) f ≡ tabulate 0 count f ++ f count ∷ []
unfolding tabulate
tabulate-more f count = map-range_with_len_more f 0 count count (omega arith)
