-- Blocks that are cut out of a machine.
use Rattle.std.proofs.Common.{◌≡◌, ℕ, ◌+◌, ◌-◌, ◌*◌, ◌/◌, ◌<◌, ◌≤◌, ◌^◌, List, [], ◌∷◌, ◌++◌, map, sym, ap}
use Rattle.std.proofs.Common.{◌∙◌, subst, arith}
use Rattle.std.specs.List.{All, range_with_len}
use Rattle.std.proofs.lemmas.List.{map-append}
use Rattle.std.proofs.lemmas.List.Elements.{All-append, All-cons, All-nil}
use Rattle.std.proofs.lemmas.List.FromFn.{map-range_with_len_more}
use Rattle.cm_model.specs.Machine.{Machine}
use Rattle.cm_model.specs.Each.{tabulate}
use Rattle.cm_blocks.specs.Parts.{Part, part, block, block_size}
use Rattle.std.proofs.Math.Nat.{pow-le-pow_right}
use Rattle.cm_blocks.proofs.Mailing.{block-fits}
use Rattle.cm_array.specs.Cuts.{PartView}
use Rattle.cm_subcube.specs.Blocks.{BlockView, IsBlock, IsFresh}

-- a cut of the right size is a block
pub IsBlock-cut : (n k b : ℕ) (machine : Machine) (kept : PartView) → k ≤ n - n / 2 → b < 2 ^ k → kept.dims ≡ n
    → kept.part ≡ block n k b machine → IsBlock k kept
unfolding part
IsBlock-cut n k b machine kept within below dims is = record {
  within = subst (λ (d : ℕ). k ≤ d - d / 2) (sym dims) within;
  count = ap (λ (s : Part). s.count) is ∙ ap (λ (d : ℕ). block_size d k) (sym dims);
  band = (b, (ap (λ (s : Part). s.first) is ∙ ap (λ (d : ℕ). b * block_size d k) (sym dims), below));
}

-- one block more
pub parts-more : (f : ℕ → Part) (b : ℕ) (blocks : List BlockView) (one : BlockView)
    → map (λ x. x.kept.part) blocks ≡ tabulate 0 b f → one.kept.part ≡ f b
    → map (λ x. x.kept.part) (blocks ++ one ∷ []) ≡ tabulate 0 (b + 1) f
unfolding tabulate
parts-more f b blocks one were is =
    map-append (λ (x : BlockView). x.kept.part) blocks (one ∷ [])
    ∙ ap (λ (parts : List Part). parts ++ one.kept.part ∷ []) were
    ∙ ap (λ (s : Part). map f (range_with_len 0 b) ++ s ∷ []) is
    ∙ sym (map-range_with_len_more f 0 b b (omega arith))

pub fresh-more : (n cap k events : ℕ) (blocks : List BlockView) (one : BlockView) → All (IsFresh n cap k events) blocks
    → IsFresh n cap k events one → All (IsFresh n cap k events) (blocks ++ one ∷ [])
fresh-more n cap k events blocks one were is =
    All-append (IsFresh n cap k events) blocks (one ∷ []) were
    (All-cons (IsFresh n cap k events) one [] is (All-nil (IsFresh n cap k events)))

pub none_yet : (f : ℕ → Part) (blocks : List BlockView) → blocks ≡ [] → map (λ x. x.kept.part) blocks ≡ tabulate 0 0 f
unfolding tabulate
none_yet f blocks none = ap (map (λ (x : BlockView). x.kept.part)) none

-- a block lies within the machine, whose chips are few
pub band_fits : (n k b wide : ℕ) → n ≤ 12 → k ≤ n - n / 2 → b < 2 ^ k → wide ≡ block_size n k
    → (b * wide + wide ≤ 2 ^ n) × (2 ^ n ≤ 4096)
band_fits n k b wide small within below is =
    let most : 2 ^ n ≤ 2 ^ 12 = pow-le-pow_right (omega arith) small in (
      subst (λ (s : ℕ). b * s + s ≤ 2 ^ n) (sym is) (block-fits n k b (omega arith) below),
      omega (arith, most),
    )
