use Rattle.std.proofs.Common.{ℕ, List, Some, sym, ap, ◌∙◌}
use Rattle.clap.specs.Matches.{found_of}
use Rattle.clap.proofs.WalkLemmas.{first_value-rows}
use Rattle.cm_args.proofs.line.file_if_named.Goals as goal

pub returns-in_ok-from_str-in-Some : goal.returns-in_ok-from_str-in-Some
returns-in_ok-from_str-in-Some c =
    sym (first_value-rows (found_of c.args.operands.now) c.args.name.now) ∙ sym c.in-Some.ensures
    ∙ ap (λ (text : List ℕ). Some text) (sym c.in_ok-from_str-in-Some.ensures.ok)

pub returns-in-None : goal.returns-in-None
returns-in-None c =
    sym (first_value-rows (found_of c.args.operands.now) c.args.name.now) ∙ sym c.in-None.ensures
