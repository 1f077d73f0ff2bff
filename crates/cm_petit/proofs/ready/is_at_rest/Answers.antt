use Rattle.cm_petit.proofs.Resting.{resting}
use Rattle.cm_petit.proofs.ready.is_at_rest.Goals as goal

pub returns-clause-rest : goal.returns-clause-rest
returns-clause-rest c = λ yes routing logs clock are long.
    resting routing c.args.sizes.dims c.args.sizes.room c.args.run.now c.args.crossing.now.buffers logs are long
    c.args.sizes.bounds.some_room (c.is_empty.ensures.none.0 c.if-not-is_empty.false) clock
    (c.is_idle.ensures.idle c.if-not-is_idle.false) c.pass_over.ensures.same
