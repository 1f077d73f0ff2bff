-- Acts put behind others.
use Rattle.std.proofs.Common.{◌≡◌, ℕ, ◌+◌, List, [], ◌∷◌, ◌++◌, map, ap, ◌∙◌, append_assoc}
use Rattle.std.specs.List.{range_with_len, flat_map}
use Rattle.cm_model.specs.declared.act.Nano.{Nano}
use Rattle.cm_model.specs.declared.act.Act.{Act}
use Rattle.cm_model.specs.declared.act.Act.TheVariants as act
use Rattle.cm_model.specs.Each.{tabulate}
use Rattle.cm_macros.proofs.Lists.{rounds_more}

-- two acts for each bit
pub two_more : (xs ys zs ws : List Act) (n : ℕ) (f : ℕ → List Nano) (a b : Nano)
    → ys ≡ xs ++ map act.Nano (flat_map f (range_with_len 0 n)) → zs ≡ ys ++ act.Nano a ∷ []
    → ws ≡ zs ++ act.Nano b ∷ [] → a ∷ b ∷ [] ≡ f n
    → ws ≡ xs ++ map act.Nano (flat_map f (range_with_len 0 (n + 1)))
two_more xs ys zs ws n f a b before first second both =
    rounds_more xs ys ws n f before
    (second ∙ ap (λ (front : List Act). front ++ act.Nano b ∷ []) first
    ∙ append_assoc ys (act.Nano a ∷ []) (act.Nano b ∷ [])
    ∙ ap (λ (is : List Nano). ys ++ map act.Nano is) both)

-- one act before those for each bit
pub one_before : (xs ys zs : List Act) (a b : Nano) (n k : ℕ) (f : ℕ → Nano) → ys ≡ xs ++ act.Nano a ∷ [] → a ≡ b
    → zs ≡ ys ++ map act.Nano (tabulate 0 n f) → n ≡ k
    → zs ≡ xs ++ map act.Nano (b ∷ tabulate 0 k f)
one_before xs ys zs a b n k f first is rest all =
    rest ∙ (λ i. first i ++ map act.Nano (tabulate 0 (all i) f))
    ∙ append_assoc xs (act.Nano a ∷ []) (map act.Nano (tabulate 0 k f))
    ∙ ap (λ (c : Nano). xs ++ act.Nano c ∷ map act.Nano (tabulate 0 k f)) is
