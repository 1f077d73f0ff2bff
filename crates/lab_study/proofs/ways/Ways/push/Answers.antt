use Rattle.std.proofs.Common.{◌≡◌, ◌<◌, ◌++◌, ◌∷◌, [], length, set, ap, ◌∙◌, arith}
use Rattle.std.specs.Global.{Vec}
use Rattle.cm_model.specs.Array.{nth_or_nil}
use Rattle.lab_study.specs.declared.trace.Trace.{Trace}
use Rattle.lab_study.proofs.Sending.{lent-more}
use Rattle.lab_study.proofs.ways.Ways.push.Goals as goal

pub returns-in_ok-push_trace : goal.returns-in_ok-push_trace
returns-in_ok-push_trace c =
    let rows = c.self.inside.by_sender.items in
    let at : c.from-sender.result ≡ c.args.trace.tag.chip = c.from-sender.ensures in
    let inside : c.from-sender.result < length rows =
    omega (arith, c.if-sender-len.true, c.len.ensures, c.self.inside.by_sender.ok.0) in
    record {
      ok = lent-more rows c.from-sender.result c.push_trace.new.traces c.args.trace c.index_mut-sent.result.now inside
          (c.in_ok-push_trace.ensures.ok
          ∙ ap (λ (row : Vec Trace). row.items ++ c.args.trace ∷ []) c.index_mut-sent.ensures.value)
          ∙ (λ j. set (c.self.view_is j) (at j) (nth_or_nil (c.self.view_is j) (at j) ++ c.args.trace ∷ []));
    }
