use Rattle.std.proofs.Common.{◌≡◌, take, drop}
use Rattle.lab_args.specs.Words.{texts}
use Rattle.lab_args.specs.Commands.{given_twice, repeated}
use Rattle.lab_args.proofs.reading.given_twice.Given as goal

abbrev pub invariant-loop-place : goal.invariant-loop-place
invariant-loop-place l =
    repeated (texts (take l.place l.words)) (texts (drop l.place l.words)) ≡ given_twice (texts l.fn.words)
