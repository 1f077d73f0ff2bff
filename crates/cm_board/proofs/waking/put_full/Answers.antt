use Rattle.std.proofs.Common.{rules}
use Rattle.cm_board.proofs.Steps.{files}
use Rattle.cm_board.proofs.waking.put_full.Goals as goal

pub compare_exchange-requires : goal.compare_exchange-requires
compare_exchange-requires g c =
    let at = c.requires.filled in (search rules, search rules, files _ _ _ at.0 at.1 _ at.2)
