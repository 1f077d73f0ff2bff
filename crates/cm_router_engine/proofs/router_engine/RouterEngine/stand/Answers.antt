use Rattle.std.proofs.Common.{[], ◌∷◌}
use Rattle.std.proofs.lemmas.List.{map-set}
use Rattle.cm_router_engine.proofs.Carrying.{standing_at}
use Rattle.cm_router_engine.proofs.Keeping.{all_standing_kept}
use Rattle.cm_router_engine.proofs.router_engine.RouterEngine.stand.Goals as goal

pub returns : goal.returns
returns c =
    let stood = c.stand.ensures in
    let others = all_standing_kept c.self.inside.row.items (c.args.message.now ∷ []) _ c.self.invariant.kept in
    let here = rw stood.items at stood.value in
    record { value = rw (← c.self.view_is, stood.others, stood.items, map-set, others, standing_at, here) }
