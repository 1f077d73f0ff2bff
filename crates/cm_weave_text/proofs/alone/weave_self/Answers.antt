use Rattle.std.proofs.Common.{sym, subst}
use Rattle.std.proofs.lemmas.Bool.{false≢true}
use Rattle.cm_exchange.specs.Lanes.{Exchange}
use Rattle.cm_exchange.specs.Worlds.{IsFinished}
use Rattle.cm_weave_text.proofs.Pieces.{exchange_kept}
use Rattle.cm_weave_text.proofs.alone.weave_self.Goals as goal

pub unreachable-requires : goal.unreachable-requires
unreachable-requires g c =
    false≢true (c.in-Err-finish.ensures.finished.1
    (subst (λ (e : Exchange). IsFinished e c.tell_all.new.world.world)
    (sym (exchange_kept g.S.Sizes.n g.S.Sizes.cap c.args.world c.tell_all.new.world c.tell_all.ensures.run))
    c.in-Ok.ensures.finished))
