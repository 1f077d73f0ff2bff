use Rattle.std.proofs.Common.{◌≡◌, List, [], length, ap, sym, ◌∙◌, refl, subst}
use Rattle.cm_model.specs.declared.message.Event.{Event}
use Rattle.cm_model.specs.Each.{tabulate}
use Rattle.cm_router.specs.Routes.{routing_of}
use Rattle.cm_model.specs.Array.{each_chip}
use Rattle.cm_router.specs.Logs.{Log}
use Rattle.cm_router.specs.Rows.{with_row}
use Rattle.cm_router.proofs.Telling.{with_row-nil}
use Rattle.cm_petit.specs.Routers.{events_of}
use Rattle.cm_array.specs.SavedLogs.{unlogged}
use Rattle.cm_array.specs.declared.chip_state.ChipState.{ChipState}
use Rattle.cm_array.specs.Parts.{MachineView, machine_of, AreParts}
use Rattle.cm_array.proofs.Lists.{items-lent}
use Rattle.cm_array.proofs.Behind.{IsMachine-unlogged}
use Rattle.cm_array.proofs.Putting.{AreParts-put}
use Rattle.cm_array.proofs.machine.MachineOf.set_logs_aside.Goals as goal
use Rattle.cm_array.proofs.machine.MachineOf.set_logs_aside.Given.{Over}
use Rattle.cm_array.proofs.machine.MachineOf.set_logs_aside.Goals.{After-replace}

told_by_none : (g : Over) (c : After-replace g) → with_row (events_of c.replace.new.dest.items) c.deal_out.new.row.items
    ≡ each_chip g.S.Sizes.n (λ k. [])
told_by_none g c =
    (λ i. with_row (events_of (c.replace.ensures.after i).items) (c.in_ok-deal_out.ensures.ok i))
    ∙ with_row-nil (events_of c.in_ok-none.none.items) ∙ c.in_ok-none.ensures.value
    ∙ ap (λ k. tabulate {X = List Event} 0 k (λ b. [])) (c.chips.ensures.value
    ∙ ap (λ (s : ChipState). length s.run) c.reserve_logs.ensures.value ∙ c.self.invariant.machine.chip_count)

-- what is kept then
kept_aside : (g : Over) → After-replace g → ChipState
kept_aside g c = record c.self.inside.state { logs = c.replace.new.dest; row = c.deal_out.new.row }

is_kept : (g : Over) (c : After-replace g) → record c.reserve_logs.new.self { logs = c.replace.new.dest } ≡ kept_aside g c
unfolding kept_aside
is_kept g c = ap (λ (s : ChipState). record s { logs = c.replace.new.dest }) c.reserve_logs.ensures.value

machine_is : (g : Over) (c : After-replace g) → machine_of (kept_aside g c) ≡ unlogged g.S.Sizes.n (machine_of c.self.inside.state)
unfolding kept_aside
machine_is g c =
    let parts = c.self.inside.state in
    let logs = told_by_none g c in
    λ i. record {
      chips = parts.run;
      buffers = parts.crossing.buffers;
      logs = logs i;
      clock = parts.clock;
      routing = routing_of parts.routing;
    }

pub invariant_of-self-2 : goal.invariant_of-self-2
unfolding kept_aside
invariant_of-self-2 g c =
    let parts = c.self.inside.state in
    subst (λ (s : ChipState). AreParts g.S.Sizes.n g.S.Sizes.cap s) (sym (is_kept g c))
    (AreParts-put g.S.Sizes.n g.S.Sizes.cap parts (kept_aside g c) (unlogged g.S.Sizes.n (machine_of parts)) c.self.invariant
    (IsMachine-unlogged g.S.Sizes.n g.S.Sizes.cap (machine_of parts) c.self.invariant.machine) (machine_is g c)
    c.self.invariant.gathered refl refl refl c.self.invariant.sized.clock refl)

pub returns-clause-ok : goal.returns-clause-ok
returns-clause-ok g c =
    ap machine_of (is_kept g c) ∙ machine_is g c
    ∙ ap (λ (kept : MachineView). unlogged g.S.Sizes.n kept.machine) c.self.view_is

pub returns-clause-logs : goal.returns-clause-logs
returns-clause-logs g c =
    let parts = c.self.inside.state in
    let dealt = c.deal_out.new.logs in
    let first = items-lent parts.logs dealt (c.deal_out.auto.logs ∙ ap length c.deref_mut.ensures.value) in
    ap (λ v. events_of v.items) c.replace.ensures.value ∙ c.reserve_logs.ensures.events ∙ ap events_of first
    ∙ sym (with_row-nil (events_of dealt)) ∙ ap (with_row (events_of dealt)) (sym c.in_ok-deal_out.ensures.ok)
    ∙ c.deal_out.ensures.value
    ∙ ap (λ (logs : List Log). with_row (events_of logs) parts.row.items) c.deref_mut.ensures.value
    ∙ ap (λ (kept : MachineView). kept.machine.logs) c.self.view_is
