use Rattle.std.proofs.Common.{rules, ◌≡◌, ◌<◌, ◌≤◌, ◌-◌, ◌/◌, ℕ, length, subst, arith, ◌∙◌}
use Rattle.cm_resident.specs.declared.running.PendingWorker.{PendingWorker}
use Rattle.cm_turns.specs.Lanes.{Run}
use Rattle.cm_resident.specs.TeamSetups.{AreLinedUpForSome}
use Rattle.cm_resident.proofs.Ending.{account_after, first_of, lined_up_id}
use Rattle.cm_resident.proofs.shared_list.SharedList.share_out.Goals as goal

pub run_prepared-requires : goal.run_prepared-requires
run_prepared-requires g c =
    let prepared = c.in_ok-prepared.prepared in let ensures = c.in_ok-prepared.ensures in
    let lined = ensures.team in
    let count : length prepared.all.readies.items ≡ c.args.self.now.workers = lined.len ∙ lined.is.len in
    let within : prepared.k ≤ g.S.Sizes.n - g.S.Sizes.n / 2 = omega (arith, ensures.k, c.requires.list.within) in
    let some : 0 < length prepared.all.readies.items = omega (arith, count, c.requires.list.some) in
    let team : AreLinedUpForSome g.S.Sizes.n prepared.k g.S.Sizes.cap c.args.machine.now.machine prepared.all.readies.items =
    record { acts = c.args.self.now.acts.now; count = c.args.self.now.workers; of = lined } in
    search (rules, within, some, team)

pub returns-clause-ok : goal.returns-clause-ok
returns-clause-ok g c =
    c.in_ok-run_prepared.ensures.ok c.args.self.now.acts.now c.args.self.now.workers c.in_ok-prepared.ensures.team

pub returns-clause-account : goal.returns-clause-account
returns-clause-account g c =
    account_after g.S.Sizes.n g.S.Sizes.cap c.args.machine.now.machine c.run_prepared.new.machine.machine c.args.self.now.acts.now
    (returns-clause-ok g c)

pub returns-clause-admitted : goal.returns-clause-admitted
returns-clause-admitted g c gate is w below =
    let lined = c.in_ok-prepared.ensures.team in
    let readies = c.in_ok-prepared.prepared.all.readies.items in
    let k = c.in_ok-prepared.prepared.k in
    let run : Run =
    record { n = g.S.Sizes.n; k = k; room = g.S.Sizes.cap; machine = c.args.machine.now.machine; acts = c.args.self.now.acts.now } in
    let count : length readies ≡ c.args.self.now.workers = lined.len ∙ lined.is.len in
    let there : w < length readies = omega (arith, count, below) in
    let d : PendingWorker = first_of readies (omega (arith, there)) in
    subst (λ (v : ℕ). (goal.Gate-dyn g (gate.vtable, gate.value)).admits gate.value v)
    (lined_up_id run c.args.self.now.workers w readies d lined below)
    (c.in_ok-run_prepared.ensures.admitted gate is w d there)
