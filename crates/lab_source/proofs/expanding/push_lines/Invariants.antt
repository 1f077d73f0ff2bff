use Rattle.std.proofs.Common.{◌≡◌, ◌++◌, drop}
use Rattle.lab_source.specs.Expansion.{phrase_text}
use Rattle.lab_source.proofs.expanding.push_lines.Given as goal

-- what is written, and what the acts that are left give
abbrev pub invariant-loop-act : goal.invariant-loop-act
invariant-loop-act l =
    l.text.items ++ phrase_text l.place (drop l.act-index l.acts) ≡ l.initial.text.items ++ phrase_text l.place l.acts
