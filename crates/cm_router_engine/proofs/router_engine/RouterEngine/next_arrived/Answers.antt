use Rattle.std.proofs.Common.{◌≡◌, ◌≤◌, ◌∙◌, ap, sym, arith}
use Rattle.std.proofs.lemmas.List.{length-map}
use Rattle.cm_router_engine.proofs.Carrying.{as_many, standing_at, arrived_standing, arrived_at}
use Rattle.cm_router_engine.proofs.router_engine.RouterEngine.next_arrived.Goals as goal

pub next_arrived-requires-clause-within : goal.next_arrived-requires-clause-within
next_arrived-requires-clause-within c =
    (as_many (λ n. n ≤ c.args.sizes.room) c.self.inside.row.items c.self.inside.slots).1
    (rw (← c.self.view_is) at c.requires.within)

pub next_arrived-requires-clause-known : goal.next_arrived-requires-clause-known
next_arrived-requires-clause-known c = λ k from below is.
    let known = rw (← c.self.view_is) at c.requires.known in
    known k from (grind (arith, length-map, below)) is ∙ arrived_at c.self.inside.row.items c.self.inside.slots k

pub returns-clause-known : goal.returns-clause-known
returns-clause-known c = rw (← c.self.view_is) (λ k from below is.
    c.next_arrived.ensures.known k from (grind (arith, length-map, below)) is
    ∙ sym (arrived_at c.self.inside.row.items c.self.inside.slots k))

pub returns-clause-none : goal.returns-clause-none
returns-clause-none c = λ k from below.
    rw (← c.self.view_is, standing_at, arrived_standing, c.next_arrived.ensures.none k from below)

pub returns-clause-arrived : goal.returns-clause-arrived
returns-clause-arrived c = λ below.
    rw (← c.self.view_is, standing_at, arrived_standing, c.next_arrived.ensures.arrived (grind (arith, length-map)))
