use Rattle.std.proofs.Common.{List, ap, ◌∙◌, ℕ, arith}
use Rattle.cm_model.specs.Letters.{can_receive}
use Rattle.cm_model.specs.OneChip.{is_accepted}
use Rattle.cm_plain.proofs.Sorting.{IsNext, delivered_in_turn, none_delivered_in_turn, kept_in_turn, none_kept_in_turn}
use Rattle.cm_plain.proofs.Sorting.{arrived_in_turn}
use Rattle.cm_plain.proofs.buffer.PlainBuffer.sorted.Goals as goal
use Rattle.cm_plain.proofs.buffer.PlainBuffer.sorted.Goals.{then-accepted+in_ok-put, else-accepted+in_ok-put-2}

pub loop-message-preserved : goal.loop-message-preserved
loop-message-preserved c =
    let receives = can_receive c.args.chip.now in
    let messages = c.deref-message-items.result.now in
    let message = c.message-item.result in
    let index = c.loop-message.message-index in
    let arrived = c.loop-message.arrived.items in
    let accepted = c.is_accepted-accepted.result in
    let next : IsNext receives messages index message arrived accepted = record {
      inside = omega arith;
      is = c.message-item.is;
      before = c.loop-message.invariant.arrived;
      test = c.is_accepted-accepted.ensures.value
          ∙ ap (λ (before : List ℕ). is_accepted receives before message) c.deref.ensures.value;
    } in
    record {
      delivered = elim c.if-accepted.branch [
        | then-accepted+in_ok-put w ↦ ap (λ v. v.items) w.delivered-is
            ∙ delivered_in_turn receives messages index message arrived accepted c.loop-message.delivered.items _ next
            w.if-accepted.true c.loop-message.invariant.delivered w.in_ok-put.ensures.ok
        | else-accepted+in_ok-put-2 w ↦ ap (λ v. v.items) w.delivered-is
            ∙ none_delivered_in_turn receives messages index message arrived accepted c.loop-message.delivered.items
            next w.if-accepted.false c.loop-message.invariant.delivered
      ];
      kept = elim c.if-accepted.branch [
        | then-accepted+in_ok-put w ↦ ap (λ v. v.items) w.kept-is
            ∙ none_kept_in_turn receives messages index message arrived accepted c.loop-message.kept.items next
            w.if-accepted.true c.loop-message.invariant.kept
        | else-accepted+in_ok-put-2 w ↦ ap (λ v. v.items) w.kept-is
            ∙ kept_in_turn receives messages index message arrived accepted c.loop-message.kept.items _ next
            w.if-accepted.false c.loop-message.invariant.kept w.in_ok-put-2.ensures.ok
      ];
      arrived = arrived_in_turn receives messages index message arrived c.arrive.new.procs.items accepted next
          c.in_ok-arrive.ensures.ok;
    }
