use Rattle.std.proofs.Common.{◌<◌, ◌++◌, ◌∙◌, length, sym, ap, arith}
use Rattle.cm_model.specs.Array.{nth_or_nil}
use Rattle.cm_router.specs.Rows.{events_of_chip}
use Rattle.cm_router.proofs.Telling.{with_row_at}
use Rattle.cm_petit.specs.Routers.{events_of}
use Rattle.cm_array.specs.Parts.{MachineView}
use Rattle.cm_array.proofs.Machines.{length-events, length-logs, AreUnderWay-parts}
use Rattle.cm_array.proofs.Searching.{nth_or_nil-events_of}
use Rattle.cm_array.proofs.machine.MachineOf.log.Goals as goal

pub index-requires : goal.index-requires
index-requires g c =
    let parts = c.self.inside.state in
    omega (
      arith,
      c.requires.chip,
      c.from.ensures,
      parts.logs.ok.0,
      length-logs g.S.Sizes.n g.S.Sizes.cap parts (AreUnderWay-parts g.S.Sizes.n g.S.Sizes.cap parts c.self.invariant),
    )

pub returns-clause-value : goal.returns-clause-value
returns-clause-value g c =
    let parts = c.self.inside.state in
    let chip = c.args.chip in
    let logs = parts.logs.items in
    let under = AreUnderWay-parts g.S.Sizes.n g.S.Sizes.cap parts c.self.invariant in
    let long = length-logs g.S.Sizes.n g.S.Sizes.cap parts under in
    let there : c.from.result < length logs = omega (arith, c.requires.chip, c.from.ensures, long) in
    let inside : chip < length (events_of logs) =
    omega (arith, c.requires.chip, length-events g.S.Sizes.n g.S.Sizes.cap parts under) in
    let dealt = c.deref.ensures.value ∙ sym (nth_or_nil-events_of logs c.from.result c.index.result.now there c.index.ensures)
    ∙ ap (nth_or_nil (events_of logs)) c.from.ensures in
    c.of.ensures.value ∙ (λ i. dealt i ++ events_of_chip chip (c.deref-2.ensures.value i))
    ∙ sym (with_row_at (events_of logs) parts.row.items chip inside)
    ∙ ap (λ (kept : MachineView). nth_or_nil kept.machine.logs chip) c.self.view_is
