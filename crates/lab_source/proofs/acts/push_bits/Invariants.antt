use Rattle.std.proofs.Common.{◌≡◌, ◌+◌, ◌++◌, map}
use Rattle.cm_model.specs.declared.act.Act.TheVariants as act
use Rattle.cm_model.specs.Each.{tabulate}
use Rattle.cm_language.specs.Acts.{nano}
use Rattle.lab_source.proofs.acts.push_bits.Given as goal

abbrev pub invariant-loop-i : goal.invariant-loop-i
invariant-loop-i l =
    l.acts.items ≡ l.initial.acts.items ++ map act.Nano
    (tabulate 0 l.i (λ k. nano l.context (l.d.at + k) (l.s.at + k) 8 8 l.table 0x00))
