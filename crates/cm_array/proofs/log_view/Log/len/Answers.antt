use Rattle.std.proofs.Common.{arith}
use Rattle.cm_array.proofs.log_view.Log.len.Goals as goal

pub overflow_add-result : goal.overflow_add-result
overflow_add-result c = omega (arith, c.count_told.ensures.within, c.self.told)
