use Rattle.std.proofs.Common.{sym, ◌∙◌, arith}
use Rattle.cm_array.proofs.Tagging.{equal_neighbours}
use Rattle.cm_array.proofs.tags.has_equal_neighbours.Goals as goal

pub returns-then-eq : goal.returns-then-eq
returns-then-eq c =
    record {
      value = equal_neighbours c.args.keys.now c.loop-i.i (omega arith) (omega arith) (sym c.eq.ensures
          ∙ c.if-eq.true);
    }
