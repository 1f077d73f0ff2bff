use Rattle.cm_array.proofs.Accounts.{account_after_run}
use Rattle.cm_array.proofs.runner.PlainRunner.go.Goals as goal

pub returns-clause-account : goal.returns-clause-account
returns-clause-account g c = account_after_run g.S.Sizes.n g.S.Sizes.cap c.args.machine.now.machine c.run.new.self.machine
    c.args.acts.now c.in_ok-run.ensures.ok
