use Rattle.std.proofs.Common.{◌≡◌, ◌+◌, ◌≤◌, ◌++◌, length, map}
use Rattle.std.specs.List.{range_with_len, flat_map}
use Rattle.std.specs.Vec.{vec_len, vec_capacity}
use Rattle.cm_model.specs.declared.act.Act.TheVariants as act
use Rattle.cm_language.specs.Acts.{product_round}
use Rattle.cm_macros.proofs.product.push_rounds.Given as goal

abbrev pub invariant-loop-j : goal.invariant-loop-j
invariant-loop-j l = record {
  items : l.list.items
      ≡ l.initial.list.items ++ map act.Nano (flat_map (product_round l.d l.x l.y) (range_with_len 0 l.j));
  len : vec_len l.list ≡ vec_len l.initial.list + length (flat_map (product_round l.d l.x l.y) (range_with_len 0 l.j));
  capacity : vec_capacity l.initial.list ≤ vec_capacity l.list;
}
