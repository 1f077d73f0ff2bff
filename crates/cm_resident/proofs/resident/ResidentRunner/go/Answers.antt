use Rattle.std.proofs.Common.{rules, ◌≡◌, ◌≤◌, ◌-◌, ◌/◌, ℕ, ap, ◌∙◌, arith}
use Rattle.cm_subcube.specs.Rounds.{rounds_of}
use Rattle.cm_resident.proofs.Ending.{nothing_run, account_after}
use Rattle.cm_resident.proofs.resident.ResidentRunner.go.Goals as goal

pub returns-then-is_empty-clause-ok : goal.returns-then-is_empty-clause-ok
returns-then-is_empty-clause-ok g c =
    nothing_run g.S.Sizes.n g.S.Sizes.cap c.args.machine.now.machine c.args.acts.now c.clock.ensures.whole (search rules)

pub returns-then-is_empty-clause-account : goal.returns-then-is_empty-clause-account
returns-then-is_empty-clause-account g c =
    account_after g.S.Sizes.n g.S.Sizes.cap c.args.machine.now.machine c.args.machine.now.machine c.args.acts.now
    (nothing_run g.S.Sizes.n g.S.Sizes.cap c.args.machine.now.machine c.args.acts.now c.clock.ensures.whole (search rules))

pub run-done-requires : goal.run-done-requires
run-done-requires g c =
    let k = c.share_of-share.result.k in
    let dimension = c.dims-dims.ensures.sizes.dimension in
    let within : k ≤ g.S.Sizes.n - g.S.Sizes.n / 2 =
    omega (arith, c.share_of-share.ensures.within, c.dims-dims.ensures.value) in
    let rounds : c.deref.result.now ≡ rounds_of g.S.Sizes.n k c.args.acts.now =
    c.deref.ensures.value ∙ c.in_ok-rounds.ensures.value
    ∙ ap (λ (d : ℕ). rounds_of d k c.args.acts.now) c.dims-dims.ensures.value in
    let cycles = c.in_ok-cycles.ensures.cycles in
    search (rules, dimension, within, rounds, cycles)
