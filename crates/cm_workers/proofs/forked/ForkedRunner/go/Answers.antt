use Rattle.std.proofs.Common.{rules, ◌≡◌, ◌≤◌, ◌-◌, ◌/◌, ◌∙◌, arith}
use Rattle.cm_workers.proofs.Forking.{nothing_run, account_after}
use Rattle.cm_workers.proofs.forked.ForkedRunner.go.Goals as goal

pub returns-then-is_empty-clause-ok : goal.returns-then-is_empty-clause-ok
returns-then-is_empty-clause-ok g c =
    nothing_run g.S.Sizes.n g.S.Sizes.cap c.args.machine.now.machine c.args.acts.now c.clock.ensures.whole (search rules)

pub returns-then-is_empty-clause-account : goal.returns-then-is_empty-clause-account
returns-then-is_empty-clause-account g c =
    account_after g.S.Sizes.n g.S.Sizes.cap c.args.machine.now.machine c.args.machine.now.machine c.args.acts.now
    (nothing_run g.S.Sizes.n g.S.Sizes.cap c.args.machine.now.machine c.args.acts.now c.clock.ensures.whole (search rules))

pub fork-done-requires : goal.fork-done-requires
fork-done-requires g c =
    let dims : c.sizes-sizes.result.dims ≡ g.S.Sizes.n = c.sizes-sizes.ensures.dims ∙ c.dims.ensures.value in
    let within : c.sizes-sizes.result.k ≤ g.S.Sizes.n - g.S.Sizes.n / 2 =
    omega (arith, c.sizes-sizes.ensures.within, c.dims.ensures.value) in
    search (rules, dims, within)
