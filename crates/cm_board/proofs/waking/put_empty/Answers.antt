use Rattle.std.proofs.Common.{rules}
use Rattle.cm_board.proofs.Steps.{clears}
use Rattle.cm_board.proofs.waking.put_empty.Goals as goal

pub compare_exchange-requires : goal.compare_exchange-requires
compare_exchange-requires g c =
    let at = c.requires.emptied in (search rules, search rules, clears _ _ _ at.0 at.1 _ at.2)
