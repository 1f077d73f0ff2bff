use Rattle.std.proofs.Common.{◌≡◌, ◌+◌, ◌≤◌, ◌++◌, map}
use Rattle.std.specs.Prelude.{if◌then◌else◌}
use Rattle.std.specs.Vec.{vec_len, vec_capacity}
use Rattle.cm_bits.specs.Bit.{bit}
use Rattle.cm_model.specs.declared.act.Act.TheVariants as act
use Rattle.cm_model.specs.Each.{tabulate}
use Rattle.cm_language.specs.Acts.{nano}
use Rattle.cm_macros.proofs.pushes.push_number.Given as goal

abbrev pub invariant-loop-i : goal.invariant-loop-i
invariant-loop-i l = record {
  items : l.list.items ≡ l.initial.list.items ++ map act.Nano (tabulate 0 l.i
      (λ k. nano l.context (l.d.at + k) (l.d.at + k) 8 8 (if bit l.number k then 0xff else 0x00) 0x00));
  len : vec_len l.list ≡ vec_len l.initial.list + l.i;
  capacity : vec_capacity l.initial.list ≤ vec_capacity l.list;
}
