use Rattle.std.proofs.Common.{refl}
use Rattle.cm_debug.specs.State.{state}
use Rattle.cm_debug.proofs.Coming.{has_run}
use Rattle.cm_debug.proofs.debugger.Debugger.run_stretch.Goals as goal

pub returns : goal.returns
returns g c = record {
  ran = has_run g.S.Sizes.n g.S.Sizes.cap c.args.stops (state c.args.machine.now.machine c.args.self.now c.args.text.now.items
      (g.R.Runner.threads_lacked c.args.runner.now)) _ c.index-rest-0.result c.stretch_len-count.result c.clock.result
      c.hand_over.new.machine.machine c.push_told.new.text.items (g.R.Runner.threads_lacked c.hand_over.new.runner)
      c.requires.within refl c.index-rest-0.is c.stretch_len-count.ensures.some c.stretch_len-count.ensures.within
      c.clock.ensures.value c.stretch_len-count.ensures.stretch c.stretch_len-count.ensures.longest
      c.in_ok-push_told.ensures.ok c.in_ok-hand_over.ensures.ok c.in_ok-hand_over.ensures.thread;
}
