use Rattle.std.proofs.Common.{decimal}
use Rattle.cm_session.specs.Answer.{payload_word}
use Rattle.cm_debug.proofs.Telling.{seven_words}
use Rattle.cm_debug.proofs.answers.push_message.Goals as goal

pub returns : goal.returns
returns c =
    let m = c.args.message.now in
    record {
      ok = rw (
        c.in_ok-push.ensures.items,
        c.in_ok-push_tag.ensures.ok,
        c.in_ok-push_route.ensures.ok,
        c.in_ok-extend_from_slice.ensures.items,
      )
          (seven_words c.args.text.now.items c.args.word.now (decimal m.rel) (decimal m.proc) (payload_word m.payload)
          (decimal m.tag.chip) (decimal m.tag.proc) (decimal m.tag.birth));
    }
