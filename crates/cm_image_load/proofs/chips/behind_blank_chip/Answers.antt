use Rattle.std.proofs.Common.{ℕ, List, Bor, Option, Some, None, ◌≡◌, ◌≢◌, ◌++◌, replicate}
use Rattle.std.specs.Prelude.{IfSome, MatchOption}
use Rattle.std.proofs.lemmas.Bool.Decides.{Decides-eqb}
use Rattle.std.proofs.lemmas.Slice.Eq.{strip_prefix_is}
use Rattle.cm_image_load.proofs.chips.behind_blank_chip.Goals as goal

stripped : (bytes front : List ℕ) (r : Option (Bor (List ℕ)))
    → MatchOption r ((rest : List ℕ) → bytes ≢ front ++ rest) (λ x. bytes ≡ front ++ x.now)
    → IfSome r (λ x. bytes ≡ front ++ x.now)
stripped bytes front None h = tt
stripped bytes front (Some x) h = h

pub returns : goal.returns
returns c = record {
  value = stripped c.args.bytes.now (replicate 35 0) c.strip_prefix.result
      (strip_prefix_is Decides-eqb c.args.bytes.now (replicate 35 0) c.strip_prefix.result
      c.strip_prefix.ensures.cases);
}
