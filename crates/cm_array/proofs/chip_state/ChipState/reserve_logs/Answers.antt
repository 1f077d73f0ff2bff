use Rattle.std.proofs.Common.{length, ap, ◌∙◌}
use Rattle.cm_petit.specs.Routers.{events_of}
use Rattle.cm_array.proofs.Lists.{items-lent}
use Rattle.cm_array.proofs.chip_state.ChipState.reserve_logs.Goals as goal

pub returns-clause-events : goal.returns-clause-events
returns-clause-events c =
    let before = c.args.self.now.logs in
    ap events_of (items-lent before c.reserve.new.logs (c.reserve.auto.logs ∙ ap length c.deref_mut.ensures.value))
    ∙ c.reserve.ensures.events ∙ ap events_of c.deref_mut.ensures.value
