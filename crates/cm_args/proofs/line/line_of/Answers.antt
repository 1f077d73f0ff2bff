use Rattle.std.proofs.Common.{◌≡◌, ℕ, List, Option, codes, get_or, subst, ap, arith}
use Rattle.std.proofs.lemmas.Grind.{common_steps}
use Rattle.clap.specs.Walk.{Row, Text}
use Rattle.cm_args.specs.declared.line.Line.{Line}
use Rattle.cm_args.specs.declared.line.Line.TheVariants as line
use Rattle.cm_args.specs.Lines.{IsLine, IsFreshLine, IsRunLine, IsWeaveLine}
use Rattle.cm_args.proofs.line.line_of.Goals as goal

-- the first byte of a word
abbrev first : List ℕ → ℕ
first word = get_or word 0 0

no_line : (rows : List Row) → ((n cap : ℕ) (file : List ℕ) → IsFreshLine n cap file rows → ⊥) → (l : Line)
    → IsLine l (codes "fresh", rows) → ⊥
no_line rows none line.Chip is = cc
no_line rows none (line.List program) is = let wrong : codes "fresh" ≡ codes "list" = is.0 in cc
no_line rows none (line.Fresh n cap file) is = none n cap _ is.1
no_line rows none (line.Run image program split workers out) is = let wrong : codes "fresh" ≡ codes "run" = is.0 in cc
no_line rows none (line.Weave image program steps split out) is =
    let other : 102 ≡ 119 = ap first is.0 in omega (arith, other)

no_run : (rows : List Row) → ((image program : List ℕ) (split workers : ℕ) (out : Option (List ℕ))
    → IsRunLine image program split workers out rows → ⊥) → (l : Line) → IsLine l (codes "run", rows) → ⊥
no_run rows none line.Chip is = cc
no_run rows none (line.List program) is = let wrong : codes "run" ≡ codes "list" = is.0 in cc
no_run rows none (line.Fresh n cap file) is = let wrong : codes "run" ≡ codes "fresh" = is.0 in cc
no_run rows none (line.Run image program split workers out) is = none _ _ _ _ _ is.1
no_run rows none (line.Weave image program steps split out) is = let other : 114 ≡ 119 = ap first is.0 in omega (arith, other)

no_weave : (rows : List Row) → ((image program : List ℕ) (steps : Option (List ℕ)) (split : ℕ)
    (out : Option (List ℕ)) → IsWeaveLine image program steps split out rows → ⊥) → (l : Line)
    → IsLine l (codes "weave", rows) → ⊥
no_weave rows none line.Chip is = cc
no_weave rows none (line.List program) is = let other : 119 ≡ 108 = ap first is.0 in omega (arith, other)
no_weave rows none (line.Fresh n cap file) is = let other : 119 ≡ 102 = ap first is.0 in omega (arith, other)
no_weave rows none (line.Run image program split workers out) is = let other : 119 ≡ 114 = ap first is.0 in omega (arith, other)
no_weave rows none (line.Weave image program steps split out) is = none _ _ _ _ _ is.1

-- what another name for the same subcommand asks for
named : (name own : Text) (rows : List Row) (l : Line) → name ≡ own → (IsLine l (own, rows) → ⊥)
    → IsLine l (name, rows) → ⊥
named name own rows l is none asks = none (subst (λ (n : Text). IsLine l (n, rows)) is asks)

pub returns-in-fresh-clause-none : goal.returns-in-fresh-clause-none
returns-in-fresh-clause-none c = λ e l.
    named c.args.name.now (codes "fresh") _ l (grind (arith, common_steps)) (no_line _ (c.fresh_line.ensures.none e) l)

pub returns-in-run-clause-none : goal.returns-in-run-clause-none
returns-in-run-clause-none c = λ e l.
    named c.args.name.now (codes "run") _ l (grind (arith, common_steps)) (no_run _ (c.run_line.ensures.none e) l)

pub returns-in-weave-clause-none : goal.returns-in-weave-clause-none
returns-in-weave-clause-none c = λ e l.
    named c.args.name.now (codes "weave") _ l (grind (arith, common_steps)) (no_weave _ (c.weave_line.ensures.none e) l)
