use Rattle.std.proofs.Common.{ℕ, List, sym, ◌∙◌, subst, below_more}
use Rattle.cm_model.specs.declared.message.Event.{Event}
use Rattle.cm_model.specs.Array.{nth_or_nil}
use Rattle.cm_petit.specs.Routers.{events_of}
use Rattle.cm_array.specs.Finding.{TellNone}
use Rattle.cm_array.proofs.Searching.{nth_or_nil-events_of}
use Rattle.cm_array.proofs.finding.delivered_to.Goals as goal

pub loop-c-preserved : goal.loop-c-preserved
loop-c-preserved c =
    let tag = c.args.tag.now in
    let read = nth_or_nil-events_of c.args.logs.now c.loop-c.c c.index-logs-c.result
    c.loop-c-test.true c.index-logs-c.is in
    below_more (λ (k : ℕ). TellNone tag (nth_or_nil (events_of c.args.logs.now) k)) c.loop-c.c c.loop-c.invariant
    (subst (λ (events : List Event). TellNone tag events) (c.deref.ensures.value ∙ sym read)
    (c.delivered_in.ensures.none c.in_default.is))
