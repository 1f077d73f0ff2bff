use Rattle.std.proofs.Common.{sym, [], get_or}
use Rattle.cm_element.proofs.Flagged.{has_flag-plane}
use Rattle.cm_element.proofs.run.Run.chip_has_flag.Goals as goal

pub returns-clause-value : goal.returns-clause-value
returns-clause-value c =
    sym (has_flag-plane c.args.number (get_or c.args.self.now c.args.chip [])
    c.flag_plane.result c.flag_plane.type_inv c.flag_plane.ensures.whole.count c.flag_plane.ensures.value)
