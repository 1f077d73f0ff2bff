-- Words behind a command's name that ask for help.
use Rattle.std.proofs.Common.{◌≡◌, ℕ, ◌-◌, ◌≤◌, Bool, true, List, [], ◌∷◌, length, take, drop, codes}
use Rattle.std.proofs.Common.{bytes_eq, refl, sym, ap, ◌∙◌, subst, arith}
use Rattle.std.specs.Bool.{MatchBool}
use Rattle.std.specs.List.{list_any}
use Rattle.std.proofs.lemmas.List.{take_rest}
use Rattle.std.specs.Borrow.{Bor}
use Rattle.lab_args.specs.Words.{texts}
use Rattle.lab_args.specs.Refusals.{Help}
use Rattle.lab_args.specs.Commands.{Explains, IsExplained}

-- a word among them asks for help
abbrev pub asks_for_help : List (Bor (List ℕ)) → Bool
asks_for_help words = list_any (λ word. bytes_eq word (codes "--help")) (texts words)

pub help_explains : (words : List (Bor (List ℕ))) → 2 ≤ length words
    → asks_for_help (take (length words - 2) (drop 2 words)) ≡ true → Explains (texts words) Help
help_explains [] h is = absurd (omega arith)
help_explains (a ∷ []) h is = absurd (omega arith)
help_explains (a ∷ b ∷ rest) h is =
    subst (λ (t : Bool). MatchBool t (Help ≡ Help) (IsExplained b.now (texts rest) Help))
    (sym is ∙ ap asks_for_help (take_rest (a ∷ b ∷ rest) 2)) refl
