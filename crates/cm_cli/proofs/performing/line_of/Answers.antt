use Rattle.std.proofs.Common.{◌≡◌, ℕ, List, Bor, map, subst, arith}
use Rattle.std.specs.Prelude.{IfOk, IsErrOf}
use Rattle.std.proofs.lemmas.Grind.{common_steps}
use Rattle.cm_args.specs.Lines.{AsksFor, IsBadLine}
use Rattle.cm_args.specs.declared.fault.LineFault.TheVariants.{BadLine}
use Rattle.cm_cli.specs.Performed.{asked_words}
use Rattle.cm_cli.proofs.performing.line_of.Goals as goal

pub returns-clause-value : goal.returns-clause-value
returns-clause-value c =
    let same : map (λ (s : Bor (List ℕ)). s.now) c.as_slice.result.now ≡ asked_words c.args.texts.now =
    grind (arith, common_steps) in
    subst (λ (words : List (List ℕ)). IfOk c.command.result (AsksFor words)) same c.command.ensures.value

pub returns-clause-bad : goal.returns-clause-bad
returns-clause-bad c =
    let same : map (λ (s : Bor (List ℕ)). s.now) c.as_slice.result.now ≡ asked_words c.args.texts.now =
    grind (arith, common_steps) in
    subst (λ (words : List (List ℕ)). IsErrOf c.command.result BadLine → IsBadLine words) same
    c.command.ensures.bad_line
