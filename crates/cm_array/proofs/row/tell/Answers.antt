use Rattle.std.proofs.Common.{◌≢◌, ◌+◌, ◌-◌, ◌<◌, ℕ, length, arith, rules}
use Rattle.std.proofs.lemmas.List.{length-map}
use Rattle.cm_router.specs.Logs.{Log}
use Rattle.cm_router.specs.Rows.{logging_chip}
use Rattle.cm_petit.specs.Routers.{events_of}
use Rattle.cm_array.proofs.Dealing.{dealt_elsewhere, dealt_here}
use Rattle.cm_array.proofs.Rooms.{events_of-set}
use Rattle.cm_array.proofs.row.tell.Goals as goal
use Rattle.cm_array.proofs.row.tell.Goals.{then-chip-from-via-then-chip-from, then-chip-from-via-else-chip-from+then-logs-chip}

pub returns-then-chip-from-clause-ok : goal.returns-then-chip-from-clause-ok
returns-then-chip-from-clause-ok c =
    let logs = c.args.logs.now in
    let long = length-map logs (λ (log : Log). log.items) in
    let told = c.teller.ensures.value in
    let chip = c.from-chip.ensures in
    let from = c.from-from.ensures in
    let apart : (k : ℕ) → k < length (events_of logs) → logging_chip c.args.event.now ≢ c.args.first + k =
    λ k l. elim c.then-chip-from.branch [
      | then-chip-from-via-then-chip-from w ↦ omega (arith, l, long, told, chip, from, w.if-chip-from.true)
      | then-chip-from-via-else-chip-from+then-logs-chip w ↦ omega (
        arith,
        l,
        long,
        told,
        chip,
        from,
        w.if-chip-from.false,
        w.if-logs-chip.true,
      )
    ] in
    dealt_elsewhere c.args.first (events_of logs) c.args.event.now apart

pub returns-in_default-clause-err : goal.returns-in_default-clause-err
returns-in_default-clause-err c =
    events_of-set c.args.logs.now (c.from-chip.result - c.from-from.result) c.index-logs-chip.result c.push.new.self
    (search rules)

pub returns-clause-ok : goal.returns-clause-ok
returns-clause-ok c =
    dealt_here c.args.first (c.from-chip.result - c.from-from.result) c.args.logs.now c.index-logs-chip.result
    c.push.new.self c.args.event.now (omega arith)
    (omega (arith, c.teller.ensures.value, c.from-chip.ensures, c.from-from.ensures, c.if-chip-from.false))
    (search rules)
