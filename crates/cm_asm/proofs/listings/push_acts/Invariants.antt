use Rattle.std.proofs.Common.{◌≡◌, ◌++◌, drop}
use Rattle.cm_language.specs.Listing.{act_lines}
use Rattle.cm_asm.proofs.listings.push_acts.Given as goal

abbrev pub invariant-loop-i : goal.invariant-loop-i
invariant-loop-i l = l.text.items ++ act_lines l.i (drop l.i l.acts) ≡ l.initial.text.items ++ act_lines 0 l.acts
