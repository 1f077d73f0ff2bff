use Rattle.std.proofs.Common.{◌<◌, ◌++◌, ◌∷◌, [], List, length, set, take, ap, ◌∙◌, arith}
use Rattle.std.proofs.lemmas.List.{length-set, length-append, length-take}
use Rattle.cm_model.specs.declared.message.Message.{Message}
use Rattle.cm_model.specs.Array.{nth_or_nil}
use Rattle.cm_array.proofs.Laying.{none_come, one_comes, length_come}
use Rattle.lab_machine.proofs.copying.arrive_all.Goals as goal

pub loop-message-init : goal.loop-message-init
loop-message-init c = none_come c.args.engine.now.buffers c.args.chip

pub arrive-requires : goal.arrive-requires
arrive-requires c =
    let old = c.args.engine.now.buffers in
    let ms : List Message = c.args.messages.now in
    let i = c.loop-message.message-index in
    let ys : List Message = nth_or_nil old c.args.chip ++ take i ms in
    let is = c.loop-message.invariant in
    let all = length-append (nth_or_nil old c.args.chip) (take i ms) in
    let few : length (take i ms) < length ms = omega (arith, length-take i ms) in
    let here = length_come old c.args.chip ys c.requires.chip in
    record {
      chip = omega (arith, ap length is, length-set old c.args.chip ys);
      room = omega (
        arith,
        ap (λ (lists : List (List Message)). length (nth_or_nil lists c.args.chip)) is,
        here,
        all,
        few,
        c.requires.room,
      );
    }

pub loop-message-preserved : goal.loop-message-preserved
loop-message-preserved c =
    let old = c.args.engine.now.buffers in
    let i = c.loop-message.message-index in
    c.arrive.ensures.value
    ∙ ap (λ (lists : List (List Message)). set lists c.args.chip
    (nth_or_nil lists c.args.chip ++ c.message-item.result ∷ []))
    c.loop-message.invariant
    ∙ one_comes old c.args.chip (nth_or_nil old c.args.chip) c.args.messages.now i c.message-item.result c.requires.chip
    c.loop-message-test.true c.message-item.is
