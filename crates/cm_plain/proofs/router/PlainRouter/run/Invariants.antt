use Rattle.std.proofs.Common.{◌≡◌, ◌+◌, ◌≤◌, take}
use Rattle.cm_model.specs.Machine.{run_of}
use Rattle.cm_plain.proofs.router.PlainRouter.run.Given as goal

abbrev pub invariant-loop-act : goal.invariant-loop-act
invariant-loop-act g l = record {
  ran : l.after ≡ run_of g.row.N g.row.CAP l.self (take l.act-index l.acts);
  clock : l.after.clock ≤ l.self.clock + l.act-index;
}
