use Rattle.std.proofs.lemmas.List.{map-set}
use Rattle.cm_model.specs.Letters.{messages_sent}
use Rattle.cm_router_engine.proofs.Carrying.{standing_at}
use Rattle.cm_router_engine.proofs.Keeping.{all_standing_kept}
use Rattle.cm_router_engine.proofs.router_engine.RouterEngine.store_injected.Goals as goal

pub returns : goal.returns
returns c =
    let stood = c.store_injected.ensures in
    let sent = messages_sent c.args.dims c.args.clock c.args.here c.args.chip.now c.args.senders in
    let others = all_standing_kept c.self.inside.row.items sent _ c.self.invariant.kept in
    let here = rw stood.items at stood.value in
    record {
      taken = stood.taken;
      value = rw (← c.self.view_is, stood.others, stood.items, map-set, others, standing_at, here);
      log = stood.log;
      len = stood.log_len;
      capacity = stood.log_capacity;
    }
