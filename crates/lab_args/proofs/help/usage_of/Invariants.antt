use Rattle.std.proofs.Common.{◌≡◌, [], map}
use Rattle.std.specs.Prelude.{fold, string_bytes}
use Rattle.lab_args.specs.Usage.{with_usage}
use Rattle.lab_args.proofs.help.usage_of.Given as goal

-- the words of so many lines
abbrev pub invariant-loop-line : goal.invariant-loop-line
invariant-loop-line l = string_bytes l.usage ≡ fold (with_usage l.command) [] (map (λ line. line.now) l.yielded)
