use Rattle.std.proofs.Common.{◌≡◌, ◌++◌, map}
use Rattle.cm_model.specs.declared.act.Act.TheVariants as act
use Rattle.cm_model.specs.Each.{tabulate}
use Rattle.lab_phrases.specs.Acts.{add_bit}
use Rattle.lab_source.proofs.acts.push_sum.Given as goal

abbrev pub invariant-loop-i : goal.invariant-loop-i
invariant-loop-i l =
    l.acts.items ≡ l.initial.acts.items ++ map act.Nano (tabulate 0 l.i (add_bit l.context l.d l.number))
