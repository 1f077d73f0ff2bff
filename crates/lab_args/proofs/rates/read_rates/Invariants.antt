use Rattle.std.proofs.Common.{◌≡◌, length}
use denote.Shadow.{shadow}
use denote.Text.{Utf8}
use Rattle.lab_args.specs.Rates.{rates}
use Rattle.lab_args.proofs.RateLemmas.{behind}
use Rattle.lab_args.proofs.rates.read_rates.Given as goal

abbrev pub invariant-loop-part : goal.invariant-loop-part
invariant-loop-part l =
    record { text : shadow (Utf8 l.rest); others : behind l.rates.items l.rest ≡ rates l.fn.word }

abbrev pub decreases-loop-part : goal.decreases-loop-part
decreases-loop-part l = length l.rest
