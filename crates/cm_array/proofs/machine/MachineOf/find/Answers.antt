use Rattle.std.proofs.Common.{◌≡◌, ◌<◌, ℕ, List, None, length, ap, ◌∙◌, sym, refl, subst, arith}
use Rattle.std.specs.List.{All}
use Rattle.cm_model.specs.declared.message.Event.{Event}
use Rattle.cm_model.specs.declared.found.Found.{Found}
use Rattle.cm_model.specs.Array.{nth_or_nil}
use Rattle.cm_model.specs.Found.{IsWhereabouts, delivery_place}
use Rattle.cm_model.proofs.Finding.{messages_are_found}
use Rattle.cm_router.specs.Logs.{Log}
use Rattle.cm_router.specs.Rows.{logging_chip}
use Rattle.cm_petit.specs.Routers.{events_of}
use Rattle.cm_array.specs.Parts.{MachineView}
use Rattle.cm_array.specs.Finding.{TellOf, TellNone, IsLoggedIn}
use Rattle.cm_array.proofs.Machines.{AreOf-parts}
use Rattle.cm_array.proofs.Searching.{found_in-router, found_in-delivered, found_in-told, found_in-nowhere}
use Rattle.cm_array.proofs.machine.MachineOf.find.Goals as goal

pub returns-in-Some-clause-value : goal.returns-in-Some-clause-value
returns-in-Some-clause-value g c =
    let parts = c.self.inside.state in
    let machine = c.args.self.now.machine in
    found_in-router g.S.Sizes.n machine c.args.tag parts.crossing.buffers parts.logs.items parts.row.items
    (AreOf-parts g.S.Sizes.n g.S.Sizes.cap parts machine c.self.invariant (ap (λ (k : MachineView). k.machine) c.self.view_is))
    c.in-Some.chip c.in-Some.ensures.value

pub returns-in-Some-clause-there : goal.returns-in-Some-clause-there
returns-in-Some-clause-there g c =
    let machine = c.args.self.now.machine in
    subst (λ (at : Found). IsWhereabouts g.S.Sizes.n machine c.args.tag at) (sym (returns-in-Some-clause-value g c))
    (messages_are_found g.S.Sizes.n machine c.args.tag)

pub returns-in-Some-delivered_to-clause-value : goal.returns-in-Some-delivered_to-clause-value
returns-in-Some-delivered_to-clause-value g c =
    let parts = c.self.inside.state in
    let machine = c.args.self.now.machine in
    let place = c.in-Some-delivered_to.place in
    found_in-delivered g.S.Sizes.n machine c.args.tag parts.crossing.buffers parts.logs.items parts.row.items
    (AreOf-parts g.S.Sizes.n g.S.Sizes.cap parts machine c.self.invariant (ap (λ (k : MachineView). k.machine) c.self.view_is)) place
    (subst (λ (logs : List Log). IsLoggedIn c.args.tag place (events_of logs)) c.deref.ensures.value
    c.in-Some-delivered_to.ensures.some)
    (sym c.in_default.is ∙ c.router_of.ensures.value)

pub returns-in-Some-delivered_to-clause-there : goal.returns-in-Some-delivered_to-clause-there
returns-in-Some-delivered_to-clause-there g c =
    let machine = c.args.self.now.machine in
    subst (λ (at : Found). IsWhereabouts g.S.Sizes.n machine c.args.tag at)
    (sym (returns-in-Some-delivered_to-clause-value g c)) (messages_are_found g.S.Sizes.n machine c.args.tag)

pub returns-in-Some-told_in-clause-value : goal.returns-in-Some-told_in-clause-value
returns-in-Some-told_in-clause-value g c =
    let parts = c.self.inside.state in
    let machine = c.args.self.now.machine in
    let place = c.in-Some-told_in.place in
    found_in-told g.S.Sizes.n machine c.args.tag parts.crossing.buffers parts.logs.items parts.row.items
    (AreOf-parts g.S.Sizes.n g.S.Sizes.cap parts machine c.self.invariant (ap (λ (k : MachineView). k.machine) c.self.view_is)) place
    (omega (arith, c.in-Some-told_in.ensures.within, c.len.ensures, parts.logs.ok.0))
    (subst (λ (row : List Event). TellOf c.args.tag place row) c.deref-2.ensures.value c.in-Some-told_in.ensures.some)
    (sym c.in_default.is ∙ c.router_of.ensures.value)

pub returns-in-Some-told_in-clause-there : goal.returns-in-Some-told_in-clause-there
returns-in-Some-told_in-clause-there g c =
    let machine = c.args.self.now.machine in
    subst (λ (at : Found). IsWhereabouts g.S.Sizes.n machine c.args.tag at)
    (sym (returns-in-Some-told_in-clause-value g c)) (messages_are_found g.S.Sizes.n machine c.args.tag)

pub returns-in-None-clause-value : goal.returns-in-None-clause-value
returns-in-None-clause-value g c =
    let parts = c.self.inside.state in
    let machine = c.args.self.now.machine in
    let tag = c.args.tag in
    let logs : (k : ℕ) → k < length parts.logs.items → TellNone tag (nth_or_nil (events_of parts.logs.items) k) =
    subst (λ (xs : List Log). (k : ℕ) → k < length xs → TellNone tag (nth_or_nil (events_of xs) k)) c.deref.ensures.value
    (c.in_default-delivered_to.ensures.none refl) in
    let many : c.len.result ≡ length parts.logs.items = omega (arith, c.len.ensures, parts.logs.ok.0) in
    let row : All (λ (e : Event). logging_chip e < length parts.logs.items → delivery_place tag e ≡ None) parts.row.items =
    subst (λ (xs : List Event). All (λ e. logging_chip e < length parts.logs.items → delivery_place tag e ≡ None) xs)
    c.deref-2.ensures.value
    (subst (λ (n : ℕ). All (λ (e : Event). logging_chip e < n → delivery_place tag e ≡ None) c.deref-2.result.now) many
    (c.in-None.ensures.none refl)) in
    found_in-nowhere g.S.Sizes.n machine tag parts.crossing.buffers parts.logs.items parts.row.items
    (AreOf-parts g.S.Sizes.n g.S.Sizes.cap parts machine c.self.invariant (ap (λ (k : MachineView). k.machine) c.self.view_is)) logs row
    (sym c.in_default.is ∙ c.router_of.ensures.value)

pub returns-in-None-clause-there : goal.returns-in-None-clause-there
returns-in-None-clause-there g c =
    let machine = c.args.self.now.machine in
    subst (λ (at : Found). IsWhereabouts g.S.Sizes.n machine c.args.tag at) (sym (returns-in-None-clause-value g c))
    (messages_are_found g.S.Sizes.n machine c.args.tag)
