use Rattle.std.proofs.Common.{◌≡◌, ◌++◌, map, take}
use Rattle.std.specs.List.{All}
use Rattle.clap.specs.Walk.{rule_of, texts}
use Rattle.cm_args.specs.Lines.{IsLocalArg, rule_of_kind}
use Rattle.cm_args.proofs.app.add_each.Given as goal

abbrev pub invariant-loop-name : goal.invariant-loop-name
invariant-loop-name l = record {
  rules : map rule_of l.arguments.items
      ≡ map rule_of l.initial.arguments.items ++ map (rule_of_kind l.kind) (texts (take l.name-index l.names));
  local : All IsLocalArg l.initial.arguments.items → All IsLocalArg l.arguments.items;
}
