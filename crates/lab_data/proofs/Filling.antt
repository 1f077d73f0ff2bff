-- A list that is made anew element by element, from the front.
use Rattle.std.proofs.Common.{◌≡◌, ℕ, ◌+◌, ◌<◌, ◌≤◌, Bool, true, false, List, [], ◌∷◌, ◌++◌, length, get_or, set}
use Rattle.std.proofs.Common.{sym, ap, ◌∙◌, ⊎_elim, arith, nat_lt, lt-ltb, le-ltb, if◌then◌else◌, ◌==◌}
use Rattle.std.proofs.Common.{length-set, get_or-set_same, get_or-set_other}
use Rattle.std.proofs.lemmas.Bool.{cases_lt, cases_Bool, eqb-true, eqb-false}
use Rattle.std.proofs.lemmas.List.FromFn.{map-range_with_len_more}
use Rattle.cm_model.specs.Each.{tabulate}
use Rattle.cm_model.proofs.Each.{is_each, same_each_below, length-tabulate, get_or-each_below}

-- one more number
pub tabulate-more : {X : Type 0} (f : ℕ → X) (count : ℕ)
    → tabulate 0 (count + 1) f ≡ tabulate 0 count f ++ f count ∷ []
unfolding tabulate
tabulate-more f count = map-range_with_len_more f 0 count count (omega arith)

-- so many are new, and the others as they were
abbrev pub filled : {X : Type 0} → (ℕ → X) → (ℕ → X) → ℕ → ℕ → X
filled new old done k = if nat_lt k done then new k else old k

filled-new : {X : Type 0} (new old : ℕ → X) (done k : ℕ) → k < done → filled new old done k ≡ new k
filled-new new old done k h = ap (λ (b : Bool). if b then new k else old k) (lt-ltb k done h)

filled-old : {X : Type 0} (new old : ℕ → X) (done k : ℕ) → done ≤ k → filled new old done k ≡ old k
filled-old new old done k h = ap (λ (b : Bool). if b then new k else old k) (le-ltb k done h)

-- at first none are new
pub each_filled-none : {X : Type 0} (d : X) (new old : ℕ → X) (count : ℕ) (xs : List X) → length xs ≡ count
    → ((k : ℕ) → k < count → get_or xs k d ≡ old k) → xs ≡ tabulate 0 count (filled new old 0)
each_filled-none d new old count xs long are =
    is_each d count (filled new old 0) xs long (λ k h. are k h ∙ sym (filled-old new old 0 k (omega arith)))

-- at last all are
pub each_filled-all : {X : Type 0} (d : X) (new old : ℕ → X) (count : ℕ)
    → tabulate 0 count (filled new old count) ≡ tabulate 0 count new
each_filled-all d new old count = same_each_below d count (filled new old count) new (λ k h. filled-new new old count k h)

-- the next one is as it was
pub get_or-each_filled : {X : Type 0} (d : X) (new old : ℕ → X) (count done : ℕ) → done < count
    → get_or (tabulate 0 count (filled new old done)) done d ≡ old done
get_or-each_filled d new old count done h =
    get_or-each_below count (filled new old done) done d h ∙ filled-old new old done done (omega arith)

-- and then it is new
pub each_filled-more : {X : Type 0} (d : X) (new old : ℕ → X) (count done : ℕ) (x : X) → done < count → x ≡ new done
    → set (tabulate 0 count (filled new old done)) done x ≡ tabulate 0 count (filled new old (done + 1))
each_filled-more d new old count done x h is =
    is_each d count (filled new old (done + 1)) (set (tabulate 0 count (filled new old done)) done x)
    (length-set (tabulate 0 count (filled new old done)) done x ∙ long)
    (λ k below. ⊎_elim (λ (e : (k == done) ≡ true). here k (eqb-true k done e))
    (λ (e : (k == done) ≡ false). ⊎_elim
    (λ (l : k < done). get_or-set_other (tabulate 0 count (filled new old done)) done k x d (eqb-false k done e)
    ∙ get_or-each_below count (filled new old done) k d below ∙ filled-new new old done k l
    ∙ sym (filled-new new old (done + 1) k (omega arith)))
    (λ (l : done ≤ k). get_or-set_other (tabulate 0 count (filled new old done)) done k x d (eqb-false k done e)
    ∙ get_or-each_below count (filled new old done) k d below ∙ filled-old new old done k l
    ∙ sym (filled-old new old (done + 1) k (omega (arith, l, eqb-false k done e))))
    (cases_lt k done))
    (cases_Bool (k == done)))
  where
    long : length (tabulate 0 count (filled new old done)) ≡ count
    long = length-tabulate 0 count (filled new old done)

    here : (k : ℕ) → k ≡ done
        → get_or (set (tabulate 0 count (filled new old done)) done x) k d ≡ filled new old (done + 1) k
    here k same =
        ap (λ (i : ℕ). get_or (set (tabulate 0 count (filled new old done)) done x) i d) same
        ∙ get_or-set_same (tabulate 0 count (filled new old done)) done x d (omega (arith, long, h))
        ∙ is ∙ sym (filled-new new old (done + 1) done (omega arith))
        ∙ ap (filled new old (done + 1)) (sym same)
