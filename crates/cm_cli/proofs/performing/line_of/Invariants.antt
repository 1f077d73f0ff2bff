use Rattle.std.proofs.Common.{◌≡◌, ℕ, List, Bor, map, take, string_bytes}
use Rattle.cm_cli.proofs.performing.line_of.Given as goal

abbrev pub invariant-loop-text : goal.invariant-loop-text
invariant-loop-text l =
    map (λ (s : Bor (List ℕ)). s.now) l.words.items ≡ map string_bytes (take l.text-index l.texts.items)
