-- What a cut of a list reads, and that a cut of a made list is a made list.
use Rattle.std.proofs.Common.{◌≡◌, ℕ, ◌+◌, ◌-◌, ◌<◌, ◌≤◌, true, List, length, get_or, drop, sym, ◌∙◌}
use Rattle.std.proofs.Common.{ap, arith, ext_get_or}
use Rattle.std.proofs.lemmas.Bool.Decides.{nat_tests}
use Rattle.std.proofs.lemmas.List.{length-take-le, length-drop, get_or-take, get_or-drop}
use Rattle.cm_model.specs.Each.{tabulate}
use Rattle.cm_model.proofs.Each.{length-tabulate, get_or-tabulate, get_or-each_below}
use Rattle.cm_blocks.specs.Parts.{Part, sliced, is_within}

-- what a cut reads at a place
pub read-cut_at : {X : Type 0} (first count : ℕ) (xs : List X) (i : ℕ) (d : X) → i < count
    → get_or (sliced first count xs) i d ≡ get_or xs (first + i) d
unfolding sliced
read-cut_at first count xs i d below = get_or-take count (drop first xs) i d below ∙ get_or-drop first xs i d

-- and of an element by its number in the whole
pub read-sliced : {X : Type 0} (first count : ℕ) (xs : List X) (c : ℕ) (d : X) → first ≤ c → c < first + count
    → get_or (sliced first count xs) (c - first) d ≡ get_or xs c d
read-sliced first count xs c d from below =
    read-cut_at first count xs (c - first) d (omega arith)
    ∙ ap (λ (k : ℕ). get_or xs k d) (let e : first + (c - first) ≡ c = omega arith in e)

pub length-sliced : {X : Type 0} (first count : ℕ) (xs : List X) → first + count ≤ length xs
    → length (sliced first count xs) ≡ count
unfolding sliced
length-sliced first count xs h = length-take-le count (drop first xs) (omega (arith, length-drop first xs))

-- a cut of a made list is made by any function that agrees with the first on it
pub sliced-same : {X : Type 0} (d : X) (first count len : ℕ) (f g : ℕ → X) → first + count ≤ len
    → ((i : ℕ) → i < count → f (first + i) ≡ g (first + i))
    → sliced first count (tabulate 0 len f) ≡ tabulate first count g
sliced-same d first count len f g h same =
    let long : length (sliced first count (tabulate 0 len f)) ≡ count =
    length-sliced first count (tabulate 0 len f) (omega (arith, length-tabulate 0 len f, h)) in
    ext_get_or d (sliced first count (tabulate 0 len f)) (tabulate first count g)
    (long ∙ sym (length-tabulate first count g))
    (λ i l. let below : i < count = omega (arith, long, l) in
    read-cut_at first count (tabulate 0 len f) i d below
    ∙ (get_or-each_below len f (first + i) d (omega (arith, h, below))
    ∙ (same i below ∙ sym (get_or-tabulate first count g i d below))))

-- a number within a part
pub within-part : (s : Part) (c : ℕ) → s.first ≤ c → c < s.first + s.count → is_within s c ≡ true
within-part s c from below = grind (arith, nat_tests)

pub within-from : (s : Part) (c : ℕ) → is_within s c ≡ true → s.first ≤ c
within-from s c h = grind (arith, nat_tests)

pub within-below : (s : Part) (c : ℕ) → is_within s c ≡ true → c < s.first + s.count
within-below s c h = grind (arith, nat_tests)
