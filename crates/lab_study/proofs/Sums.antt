-- Sums over numbers from 0 on, and lists that such numbers make, one number more.
use Rattle.std.proofs.Common.{◌≡◌, ℕ, ◌+◌, ◌*◌, ◌^◌, List, [], ◌∷◌, ◌++◌, flat_map, sum}
use Rattle.std.proofs.Common.{sym, ap, ◌∙◌, arith, append-nil, append_assoc, map-id}
use Rattle.std.specs.List.{range_with_len}
use Rattle.std.proofs.lemmas.List.FromFn.{map-range_with_len_more}
use Rattle.std.proofs.lemmas.List.Sums.{sum_by_push}
use Rattle.std.proofs.lemmas.Grind.{flat_map-append}
use Rattle.cm_model.specs.Each.{tabulate}
use Rattle.lab_machine.proofs.Tabulating.{tabulate-more}
use Rattle.lab_study.specs.declared.counts.Counts.{Counts}
use Rattle.cm_model.specs.Machine.{Machine}
use Rattle.lab_study.specs.Adding.{added, AreCountsWithin}
use Rattle.lab_study.specs.Traces.{Traces}
use Rattle.lab_study.specs.Counts.{taken_count_at, delivered_count_at, referred_at, standing_count_at, full_at}
use Rattle.lab_study.specs.Counts.{asking_at, counts_at, counts_to}

-- one more is added
pub sum-tabulate-more : (f : ℕ → ℕ) (count : ℕ) → sum (tabulate 0 (count + 1) f) ≡ sum (tabulate 0 count f) + f count
sum-tabulate-more f count = ap sum (tabulate-more f count) ∙ sum_by_push (λ x. x) (tabulate 0 count f) (f count)

-- one number more
pub range-more : (count : ℕ) → range_with_len 0 (count + 1) ≡ range_with_len 0 count ++ count ∷ []
range-more count =
    sym (map-id (range_with_len 0 (count + 1))) ∙ map-range_with_len_more (λ k. k) 0 count count (omega arith)
    ∙ ap (λ ks. ks ++ count ∷ []) (map-id (range_with_len 0 count))

-- what one number more gives comes behind
pub flat_map-more : {X : Type 0} (f : ℕ → List X) (count : ℕ)
    → flat_map f (range_with_len 0 (count + 1)) ≡ flat_map f (range_with_len 0 count) ++ f count
flat_map-more f count =
    ap (flat_map f) (range-more count) ∙ flat_map-append f (range_with_len 0 count) (count ∷ [])
    ∙ ap (λ xs. flat_map f (range_with_len 0 count) ++ xs) (append-nil (f count))

-- and so it is of a text to which it is added
pub text-more : (f : ℕ → List ℕ) (start before after : List ℕ) (count : ℕ)
    → before ≡ start ++ flat_map f (range_with_len 0 count) → after ≡ before ++ f count
    → after ≡ start ++ flat_map f (range_with_len 0 (count + 1))
text-more f start before after count so_far more =
    more ∙ ap (λ xs. xs ++ f count) so_far ∙ append_assoc start (flat_map f (range_with_len 0 count)) (f count)
    ∙ ap (λ xs. start ++ xs) (sym (flat_map-more f count))

-- the numbers of one chip more
pub counts_to-more : (count cap : ℕ) (before : List ℕ) (traces : Traces) (machine : Machine)
    → counts_to (count + 1) cap before traces machine
    ≡ added (counts_to count cap before traces machine) (counts_at cap before traces machine count)
unfolding counts_to
counts_to-more count cap before traces machine = λ i. record {
  taken = sum-tabulate-more (taken_count_at before machine) count i;
  delivered = sum-tabulate-more (delivered_count_at before machine) count i;
  referred = sum-tabulate-more (referred_at traces machine) count i;
  standing = sum-tabulate-more (standing_count_at machine) count i;
  full = sum-tabulate-more (full_at cap machine) count i;
  asking = sum-tabulate-more (asking_at machine) count i;
}

-- bounds of sums
pub added-within : (count : ℕ) (these more all : Counts) → AreCountsWithin (count * 2 ^ 72) these → AreCountsWithin (2 ^ 72) more
    → all ≡ added these more → AreCountsWithin ((count + 1) * 2 ^ 72) all
added-within count these more all low high is = record {
  taken = omega (arith, low.taken, high.taken, ap (λ (k : Counts). k.taken) is);
  delivered = omega (arith, low.delivered, high.delivered, ap (λ (k : Counts). k.delivered) is);
  referred = omega (arith, low.referred, high.referred, ap (λ (k : Counts). k.referred) is);
  standing = omega (arith, low.standing, high.standing, ap (λ (k : Counts). k.standing) is);
  full = omega (arith, low.full, high.full, ap (λ (k : Counts). k.full) is);
  asking = omega (arith, low.asking, high.asking, ap (λ (k : Counts). k.asking) is);
}
