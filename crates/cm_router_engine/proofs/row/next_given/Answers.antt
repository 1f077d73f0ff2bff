use Rattle.std.proofs.Common.{◌≡◌, ◌≢◌, ◌<◌, Some, length, sym, ⊎_elim, arith}
use Rattle.std.specs.List.{slice_get}
use Rattle.std.proofs.lemmas.Bool.{cases_eq}
use Rattle.std.proofs.lemmas.Option.{slice_get_within}
use Rattle.cm_model.specs.Array.{nth_or_nil}
use Rattle.cm_router_engine.proofs.row.next_given.Goals as goal

pub loop-ticket-preserved : goal.loop-ticket-preserved
loop-ticket-preserved c =
    let was = c.loop-ticket.invariant in
    let place = c.loop-ticket.place in
    let queue = nth_or_nil c.args.slots.now c.args.here in
    let is : Some c.in-Some.ticket ≡ slice_get queue place = c.in-Some.ensures.value in
    let inside : place < length queue = slice_get_within queue place c.in-Some.ticket (sym is) in
    record {
      passed = λ j t from below at. ⊎_elim
          (λ (e : j ≡ place).
          let same : t ≡ c.in-Some.ticket = cc (rw e at at, is) in
          rw same (c.is_given.ensures.kept c.if-is_given.false))
          (λ (e : j ≢ place). was.passed j t from (omega (arith, e)) at)
          (cases_eq j place);
      from = omega (arith, was.from);
      within = omega (arith, inside);
    }
