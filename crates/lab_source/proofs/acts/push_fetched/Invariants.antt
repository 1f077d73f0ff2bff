use Rattle.std.proofs.Common.{◌≡◌, ◌++◌, map}
use Rattle.std.specs.List.{range_with_len, flat_map}
use Rattle.cm_model.specs.declared.act.Act.TheVariants as act
use Rattle.lab_phrases.specs.Acts.{fetch_bit}
use Rattle.lab_source.proofs.acts.push_fetched.Given as goal

abbrev pub invariant-loop-i : goal.invariant-loop-i
invariant-loop-i l =
    l.acts.items ≡ l.initial.acts.items
    ++ map act.Nano (flat_map (fetch_bit l.context l.flag l.dir l.d l.s) (range_with_len 0 l.i))
