use Rattle.std.proofs.Common.{◌≤◌, length, arith}
use Rattle.std.proofs.lemmas.List.{map-set}
use Rattle.std.proofs.lemmas.List.Elements.{All-set}
use Rattle.cm_router_engine.proofs.Carrying.{as_many, few_at, standing_at}
use Rattle.cm_router_engine.proofs.router_engine.RouterEngine.deliver.Goals as goal

pub deliver_at-requires-clause-room : goal.deliver_at-requires-clause-room
deliver_at-requires-clause-room c =
    let within = rw (← c.self.view_is) at c.requires.within in
    omega (
      arith,
      c.requires.space,
      c.args.sizes.bounds.most_room,
      few_at c.args.sizes.room _ c.self.inside.slots c.args.chip within,
    )

pub deliver_at-requires-clause-log_room : goal.deliver_at-requires-clause-log_room
deliver_at-requires-clause-log_room c =
    let within = rw (← c.self.view_is) at c.requires.within in
    omega (arith, c.requires.log_room, few_at c.args.sizes.room _ c.self.inside.slots c.args.chip within)

pub returns : goal.returns
returns c =
    let room = c.args.sizes.room in
    let row = c.self.inside.row.items in
    let slots = c.self.inside.slots in
    let within = rw (← c.self.view_is) at c.requires.within in
    let few = few_at room row slots c.args.chip within in
    let given = c.deliver_at.ensures in
    let here = rw c.deref.ensures.value at given.value in
    record {
      value = rw (← c.self.view_is, given.others, map-set, standing_at, here);
      chip = rw (← c.self.view_is, standing_at) (rw c.deref.ensures.value at given.chip);
      before = given.before;
      log = rw (← c.self.view_is, standing_at) (rw c.deref.ensures.value at given.log);
      len = omega (arith, given.len, few);
      capacity = given.capacity;
      within = rw given.others ((as_many (λ n. n ≤ room) row _).0 (All-set (λ ts. length ts ≤ room) slots c.args.chip _
          (omega (arith, few, given.fewer)) ((as_many (λ n. n ≤ room) row slots).1 within)));
    }
