use Rattle.std.proofs.Common.{rules, ◌≡◌, ℕ, ◌*◌, ◌%◌, ◌^◌, ◌∙◌, length, get_or, subst, sym, arith}
use Rattle.std.proofs.lemmas.Nat.{one_shl}
use Rattle.cm_gates.specs.Dealing.{AreShares}
use Rattle.cm_turns.specs.declared.worker.Worker.{Worker}
use Rattle.cm_turns.specs.Lanes.{Run}
use Rattle.cm_resident.specs.Laws.{LeaveTheirMachine}
use Rattle.cm_turns.specs.Workers.{HasWorked}
use Rattle.test_team.proofs.team.run_by_team.Goals as goal

pub in_order-requires-clause-shares : goal.in_order-requires-clause-shares
in_order-requires-clause-shares g c =
    let run : Run = record { n = g.row.N; k = c.args.k; room = g.row.CAP; machine = c.args.machine.now.machine; acts = c.args.acts.now } in
    let team = c.in_ok-team in let shares = c.in_ok-shares in
    let total : 1 * 2 ^ c.args.k % 2 ^ 64 ≡ 2 ^ c.args.k =
    one_shl c.args.k 64 (omega (arith, c.requires.within, c.clock-clock.ensures.sizes.dimension)) in
    let count : length shares.shares.items ≡ length team.team.items = search rules in
    let left : LeaveTheirMachine run shares.shares.items =
    c.teams_leave_their_machine.ensures run c.args.workers team.team.items shares.shares.items c.requires.some
    c.clock-clock.ensures.whole
    (record { len = team.ensures.count; ids = team.ensures.ids; each = team.ensures.value })
    (record {
      len = count;
      each = λ w d e l.
          let got = (shares.ensures.each w e l).1 in
          subst (λ (x : Worker). HasWorked x (get_or shares.shares.items w e).items) (sym (got.job_is d)) got.call.met;
    }) in
    subst (λ (t : ℕ). AreShares (length shares.shares.items) t shares.shares.items) (sym total) left.are_shares

pub join-requires : goal.join-requires
join-requires g c =
    let run : Run = record { n = g.row.N; k = c.args.k; room = g.row.CAP; machine = c.args.machine.now.machine; acts = c.args.acts.now } in
    let team = c.in_ok-team in let shares = c.in_ok-shares in
    let total : 1 * 2 ^ c.args.k % 2 ^ 64 ≡ 2 ^ c.args.k =
    one_shl c.args.k 64 (omega (arith, c.requires.within, c.clock-clock.ensures.sizes.dimension)) in
    let count : length shares.shares.items ≡ length team.team.items = search rules in
    let left : LeaveTheirMachine run shares.shares.items =
    c.teams_leave_their_machine.ensures run c.args.workers team.team.items shares.shares.items c.requires.some
    c.clock-clock.ensures.whole
    (record { len = team.ensures.count; ids = team.ensures.ids; each = team.ensures.value })
    (record {
      len = count;
      each = λ w d e l.
          let got = (shares.ensures.each w e l).1 in
          subst (λ (x : Worker). HasWorked x (get_or shares.shares.items w e).items) (sym (got.job_is d)) got.call.met;
    }) in record {
      whole = (left.machine c.in_order.result.items (c.in_order.ensures.count ∙ total) c.in_order.ensures.value).whole;
    }

pub returns-clause-ok : goal.returns-clause-ok
returns-clause-ok g c =
    let run : Run = record { n = g.row.N; k = c.args.k; room = g.row.CAP; machine = c.args.machine.now.machine; acts = c.args.acts.now } in
    let team = c.in_ok-team in let shares = c.in_ok-shares in
    let total : 1 * 2 ^ c.args.k % 2 ^ 64 ≡ 2 ^ c.args.k =
    one_shl c.args.k 64 (omega (arith, c.requires.within, c.clock-clock.ensures.sizes.dimension)) in
    let count : length shares.shares.items ≡ length team.team.items = search rules in
    let left : LeaveTheirMachine run shares.shares.items =
    c.teams_leave_their_machine.ensures run c.args.workers team.team.items shares.shares.items c.requires.some
    c.clock-clock.ensures.whole
    (record { len = team.ensures.count; ids = team.ensures.ids; each = team.ensures.value })
    (record {
      len = count;
      each = λ w d e l.
          let got = (shares.ensures.each w e l).1 in
          subst (λ (x : Worker). HasWorked x (get_or shares.shares.items w e).items) (sym (got.job_is d)) got.call.met;
    }) in
    c.join.ensures.value
    ∙ (left.machine c.in_order.result.items (c.in_order.ensures.count ∙ total) c.in_order.ensures.value).same
