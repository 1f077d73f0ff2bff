use Rattle.cm_weave_text.specs.Hearing.{exchange_in}
use Rattle.cm_weave_text.proofs.Playing.{plays_told, plays_cut_at_end, plays_without_end}
use Rattle.cm_weave_text.proofs.alone.tell_all.Goals as goal

pub returns-in-Err-push_end-clause-err : goal.returns-in-Err-push_end-clause-err
returns-in-Err-push_end-clause-err g c =
    plays_without_end (exchange_in g.S.Sizes.n g.S.Sizes.cap c.args.world.now) c.args.world.now.world c.play_on.new.world.world _
    _ c.play_on.new.text.items c.in-Ok.played.steps c.in-Ok.played.sent c.in-Ok.ensures.ok

pub returns-in-Ok-send-clause-ok : goal.returns-in-Ok-send-clause-ok
returns-in-Ok-send-clause-ok g c =
    plays_told (exchange_in g.S.Sizes.n g.S.Sizes.cap c.args.world.now) c.args.world.now.world c.play_on.new.world.world _
    _ c.play_on.new.text.items c.in-Ok.played.steps c.in-Ok.played.sent c.in-Ok.ensures.ok c.push_end.new.text.items _
    c.in-Ok-send.field-0 c.in-Ok-push_end.ensures.ok c.in-Ok-send.ensures.ok

pub returns-clause-err : goal.returns-clause-err
returns-clause-err g c =
    plays_cut_at_end (exchange_in g.S.Sizes.n g.S.Sizes.cap c.args.world.now) c.args.world.now.world c.play_on.new.world.world _
    _ c.play_on.new.text.items c.in-Ok.played.steps c.in-Ok.played.sent c.in-Ok.ensures.ok c.push_end.new.text.items _
    c.in-Err-send.fault c.in-Ok-push_end.ensures.ok c.in-Err-send.ensures.err
