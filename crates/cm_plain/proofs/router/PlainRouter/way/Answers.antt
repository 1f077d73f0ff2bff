use Rattle.std.proofs.Common.{◌≡◌, ◌∙◌, ap}
use Rattle.std.specs.List.{list_any}
use Rattle.cm_model.specs.Machine.{Machine}
use Rattle.cm_model.specs.Wiring.{wire_of, same_wire}
use Rattle.cm_plain.proofs.router.PlainRouter.way.Goals as goal

pub returns : goal.returns
returns g c =
    let cuts : c.deref.result.now ≡ c.args.self.now.routing.cuts =
    c.deref.ensures.value ∙ ap (λ (m : Machine). m.routing.cuts) c.self.view_is in
    let any = c.is_cut.ensures.value ∙ ap (list_any (same_wire (wire_of c.args.chip c.args.dim))) cuts in
    record { value = λ i. record { cut = any i; rule = (c.self.view_is i).routing.rule } }
