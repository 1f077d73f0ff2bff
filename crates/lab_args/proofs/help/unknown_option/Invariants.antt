use Rattle.std.proofs.Common.{◌≡◌, drop}
use Rattle.lab_args.specs.Words.{texts}
use Rattle.lab_args.specs.Commands.{unknown_option}
use Rattle.lab_args.proofs.help.unknown_option.Given as goal

abbrev pub invariant-loop-word : goal.invariant-loop-word
invariant-loop-word l =
    unknown_option l.command (texts (drop l.word-index l.words)) ≡ unknown_option l.command (texts l.words)
