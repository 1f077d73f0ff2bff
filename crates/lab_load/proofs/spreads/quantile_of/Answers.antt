use Rattle.std.proofs.Common.{◌≡◌, ℕ, zero, suc, ◌≤◌, true, List, [], ◌∷◌, slice_index_or, nat_le, leb-true, refl, arith}
use Rattle.std.specs.List.{list_all}
use Rattle.std.proofs.lemmas.Bool.{and_parts}
use Rattle.lab_load.specs.declared.spreads.TheConstants.{QUANTILES}
use Rattle.lab_load.proofs.spreads.quantile_of.Goals as goal

all_within : (xs : List ℕ) (i : ℕ) → list_all (λ x. nat_le x 12707) xs ≡ true → slice_index_or xs i 0 ≤ 12707
all_within [] i h = omega arith
all_within (x ∷ xs) zero h =
    leb-true x 12707 (and_parts (nat_le x 12707) (list_all (λ y. nat_le y 12707) xs) h).0
all_within (x ∷ xs) (suc i) h =
    all_within xs i (and_parts (nat_le x 12707) (list_all (λ y. nat_le y 12707) xs) h).1

pub returns-clause-within : goal.returns-clause-within
returns-clause-within c = all_within QUANTILES c.min.result refl
