use Rattle.cm_weave_text.specs.Hearing.{exchange_in}
use Rattle.cm_system.specs.InputFiles.{reads_by}
use Rattle.cm_tools.specs.Weaving.{outgoing_of}
use Rattle.cm_tools.proofs.Weaving.{hears_so, tells_so}
use Rattle.cm_tools.proofs.weaves.step_world.Goals as goal

pub returns-in-Some : goal.returns-in-Some
returns-in-Some g c = rw c.in-Some.is (record {
  machine = c.weave_session.ensures.machine;
  ends = hears_so (reads_by g.I.Source.left g.I.Source.has_failed) (exchange_in g.S.Sizes.n g.S.Sizes.cap c.args.world)
      c.args.world.world c.in-Some.steps c.weave_session.new.steps
      (outgoing_of (g.O.Sink.contents c.args.answers.now) (g.O.Sink.contents c.weave_session.new.out)
      (g.O.Sink.has_failed c.weave_session.new.out))
      c.weave_session.result c.weave_session.ensures.finished c.weave_session.ensures.err
      c.weave_session.ensures.heard c.weave_session.ensures.within c.weave_session.ensures.read;
  write = c.weave_session.ensures.write;
})

pub returns-in-None : goal.returns-in-None
returns-in-None g c = rw c.in-None.is (record {
  machine = c.weave_self.ensures.machine;
  ends = tells_so (exchange_in g.S.Sizes.n g.S.Sizes.cap c.args.world) c.args.world.world
      (outgoing_of (g.O.Sink.contents c.args.answers.now) (g.O.Sink.contents c.weave_self.new.out)
      (g.O.Sink.has_failed c.weave_self.new.out))
      c.weave_self.result c.weave_self.ensures.ok c.weave_self.ensures.err;
  write = c.weave_self.ensures.write;
})
