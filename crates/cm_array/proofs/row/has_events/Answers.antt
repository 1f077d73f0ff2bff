use Rattle.std.proofs.Common.{◌≡◌, ℕ, [], ◌∙◌, below_more}
use Rattle.cm_model.specs.Array.{nth_or_nil}
use Rattle.cm_petit.specs.Routers.{events_of}
use Rattle.cm_array.proofs.Dealing.{empty_log}
use Rattle.cm_array.proofs.Searching.{nth_or_nil-events_of}
use Rattle.cm_array.proofs.row.has_events.Goals as goal

pub loop-c-preserved : goal.loop-c-preserved
loop-c-preserved c =
    let logs = c.args.logs.now in
    below_more (λ (k : ℕ). nth_or_nil (events_of logs) k ≡ []) c.loop-c.c c.loop-c.invariant
    (nth_or_nil-events_of logs c.loop-c.c c.index-logs-c.result c.loop-c-test.true c.index-logs-c.is
    ∙ empty_log c.index-logs-c.result c.is_empty.result c.is_empty.ensures c.if-not-is_empty.false)
