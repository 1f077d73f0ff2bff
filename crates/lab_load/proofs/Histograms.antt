-- How many messages took how long: one more.
use Rattle.std.proofs.Common.{◌≡◌, ◌≢◌, ℕ, ◌+◌, ◌-◌, ◌<◌, ◌≤◌, ◌^◌, eqb, min, List, [], length, get_or, take, set}
use Rattle.std.proofs.Common.{replicate, sym, ap, ◌∙◌, arith, ⊎_elim}
use Rattle.std.proofs.lemmas.Bool.{cases_eq, eq-eqb, ne_eqb}
use Rattle.std.proofs.lemmas.List.{get_or-replicate, get_or-set_other, get_or-set_same, length-replicate, length-set}
use Rattle.std.proofs.lemmas.List.{length-take-le}
use Rattle.std.proofs.lemmas.List.Sums.{count_by-le-length, count_by_more_no, count_by_more_yes}
use Rattle.cm_model.specs.Each.{tabulate}
use Rattle.cm_model.proofs.Each.{get_or-each_below, is_each, length-tabulate}
use Rattle.lab_counts.specs.Crossings.{capped_sum}
use Rattle.lab_load.specs.Latencies.{took}

-- where there is no message, none took so long
pub none_took : (count : ℕ) → replicate count 0 ≡ tabulate 0 count (took [])
none_took count =
    is_each 0 count (took []) (replicate count 0) (length-replicate count 0) (λ k h. get_or-replicate count k 0 0 h)

-- of so many messages no more took so long
few_took : (latencies : List ℕ) (i k : ℕ) → i ≤ length latencies → took (take i latencies) k ≤ i
few_took latencies i k within =
    omega (arith, count_by-le-length (λ x. eqb x k) (take i latencies), length-take-le i latencies within)

-- one message more is one more of those that took as long as it did
took_here : (latencies : List ℕ) (i k old : ℕ) → i < length latencies → i + 1 < 2 ^ 64 → get_or latencies i 0 ≡ k
    → old ≡ took (take i latencies) k → capped_sum old 1 ≡ took (take (i + 1) latencies) k
took_here latencies i k old below fits reads was =
    let capped : min (old + 1) (2 ^ 64 - 1) ≡ took (take (i + 1) latencies) k =
    omega (
      arith,
      was,
      few_took latencies i k (omega arith),
      count_by_more_yes (λ x. eqb x k) latencies i 0 below (eq-eqb (get_or latencies i 0) k reads),
    ) in
    capped

-- and none more of the others
took_elsewhere : (latencies : List ℕ) (i k : ℕ) → i < length latencies → get_or latencies i 0 ≢ k
    → took (take i latencies) k ≡ took (take (i + 1) latencies) k
took_elsewhere latencies i k below other =
    sym (count_by_more_no (λ x. eqb x k) latencies i 0 below (ne_eqb (get_or latencies i 0) k other))

-- the counts with one message more
pub took_more : (latencies : List ℕ) (count i x : ℕ) → i < length latencies → i + 1 < 2 ^ 64
    → get_or latencies i 0 ≡ x → set (tabulate 0 count (took (take i latencies))) x
    (capped_sum (get_or (tabulate 0 count (took (take i latencies))) x 0) 1)
    ≡ tabulate 0 count (took (take (i + 1) latencies))
took_more latencies count i x below fits reads =
    let old = tabulate 0 count (took (take i latencies)) in
    let more = capped_sum (get_or old x 0) 1 in
    is_each 0 count (took (take (i + 1) latencies)) (set old x more)
    (length-set old x more ∙ length-tabulate 0 count (took (take i latencies)))
    (λ k inside. ⊎_elim
    (λ (here : k ≡ x). let there : x < count = omega (arith, here, inside) in
    ap (λ (j : ℕ). get_or (set old x more) j 0) here
    ∙ (get_or-set_same old x more 0 (omega (arith, there, length-tabulate 0 count (took (take i latencies))))
    ∙ (took_here latencies i x (get_or old x 0) below fits reads
    (get_or-each_below count (took (take i latencies)) x 0 there)
    ∙ ap (took (take (i + 1) latencies)) (sym here))))
    (λ (other : k ≢ x). get_or-set_other old x k more 0 other
    ∙ (get_or-each_below count (took (take i latencies)) k 0 inside
    ∙ took_elsewhere latencies i k below (λ e. other (sym e ∙ reads))))
    (cases_eq k x))
