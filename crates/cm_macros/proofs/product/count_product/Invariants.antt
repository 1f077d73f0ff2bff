use Rattle.std.proofs.Common.{◌≡◌, ◌*◌, ◌≤◌, length}
use Rattle.std.specs.List.{range_with_len, flat_map}
use Rattle.cm_language.specs.Acts.{product_round}
use Rattle.cm_macros.proofs.product.count_product.Given as goal

abbrev pub invariant-loop-j : goal.invariant-loop-j
invariant-loop-j l = record {
  counted : l.count ≡ length (flat_map (product_round l.d l.fn.x l.fn.y) (range_with_len 0 l.j));
  within : l.count ≤ 66 * l.j;
}
