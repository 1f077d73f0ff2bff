use Rattle.std.proofs.Common.{◌≡◌, ◌∙◌, List, [], length, sym, ap, subst, arith}
use Rattle.std.specs.List.{All}
use Rattle.std.proofs.lemmas.List.{length-map}
use Rattle.cm_model.specs.declared.message.Event.{Event}
use Rattle.cm_model.specs.Array.{nth_or_nil}
use Rattle.cm_router.specs.Logs.{Log}
use Rattle.cm_petit.specs.Routers.{events_of}
use Rattle.cm_array.specs.Parts.{MachineView}
use Rattle.cm_array.proofs.Dealing.{empty_log, nothing_told}
use Rattle.cm_array.proofs.machine.MachineOf.has_events.Goals as goal

pub returns-else-not-is_empty : goal.returns-else-not-is_empty
returns-else-not-is_empty g c =
    let parts = c.self.inside.state in
    let logs = parts.logs.items in
    record {
      none = λ no. subst (λ (kept : MachineView). All (λ (log : List Event). log ≡ []) kept.machine.logs) c.self.view_is
          (nothing_told (events_of logs) parts.row.items
          (empty_log parts.row c.is_empty.result c.is_empty.ensures c.if-not-is_empty.false)
          (λ k l. ap (λ (xs : List Log). nth_or_nil (events_of xs) k) (sym c.deref.ensures.value)
          ∙ c.has_events.ensures.none no k
          (omega (arith, l, length-map logs (λ (log : Log). log.items), ap length c.deref.ensures.value))));
    }
