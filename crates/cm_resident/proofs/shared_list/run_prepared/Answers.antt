use Rattle.std.proofs.Common.{rules, ◌≡◌, ◌<◌, ◌*◌, ◌%◌, ◌^◌, ◌∙◌, ℕ, length, get_or, subst, sym, arith}
use Rattle.std.proofs.lemmas.Nat.{one_shl}
use Rattle.cm_gates.specs.Dealing.{AreShares}
use Rattle.cm_turns.specs.Lanes.{Run}
use Rattle.cm_resident.specs.Laws.{LeaveTheirMachine}
use Rattle.cm_resident.specs.declared.running.PendingWorker.{PendingWorker}
use Rattle.cm_turns.specs.Workers.{IsOfSome}
use Rattle.cm_resident.proofs.Ending.{lined_up_leave, lined_up_of_some}
use Rattle.cm_resident.proofs.shared_list.run_prepared.Goals as goal

pub work_all-requires-clause-team : goal.work_all-requires-clause-team
work_all-requires-clause-team g c =
    let of = c.requires.team in let readies = c.args.prepared.all.readies.items in
    let run : Run =
    record { n = g.S.Sizes.n; k = c.args.prepared.k; room = g.S.Sizes.cap; machine = c.args.machine.now.machine; acts = of.acts } in
    let of_some : (w : ℕ) (d : PendingWorker) → w < length readies → IsOfSome (get_or readies w d).worker =
    lined_up_of_some run of.count readies of.of in
    search (rules, of_some)

pub in_order-blocks-requires-clause-shares : goal.in_order-blocks-requires-clause-shares
in_order-blocks-requires-clause-shares g c =
    let of = c.requires.team in let shares = c.in_ok-shares in let k = c.args.prepared.k in
    let run : Run = record { n = g.S.Sizes.n; k = k; room = g.S.Sizes.cap; machine = c.args.machine.now.machine; acts = of.acts } in
    let total : 1 * 2 ^ k % 2 ^ 64 ≡ 2 ^ k =
    one_shl k 64 (omega (arith, c.requires.within, c.clock-clock.ensures.sizes.dimension)) in
    let left : LeaveTheirMachine run shares.shares.items =
    lined_up_leave run of.count c.args.prepared.all.readies.items shares.shares.items c.requires.some
    c.clock-clock.ensures.whole of.of shares.ensures.count shares.ensures.value in
    subst (λ (t : ℕ). AreShares (length shares.shares.items) t shares.shares.items) (sym total) left.are_shares

pub in_order-blocks-requires-clause-room : goal.in_order-blocks-requires-clause-room
in_order-blocks-requires-clause-room g c =
    let k = c.args.prepared.k in
    let total : 1 * 2 ^ k % 2 ^ 64 ≡ 2 ^ k =
    one_shl k 64 (omega (arith, c.requires.within, c.clock-clock.ensures.sizes.dimension)) in
    omega (arith, total, c.requires.place_room)

pub join_and_keep-requires : goal.join_and_keep-requires
join_and_keep-requires g c =
    let of = c.requires.team in let shares = c.in_ok-shares in let k = c.args.prepared.k in
    let run : Run = record { n = g.S.Sizes.n; k = k; room = g.S.Sizes.cap; machine = c.args.machine.now.machine; acts = of.acts } in
    let total : 1 * 2 ^ k % 2 ^ 64 ≡ 2 ^ k =
    one_shl k 64 (omega (arith, c.requires.within, c.clock-clock.ensures.sizes.dimension)) in
    let left : LeaveTheirMachine run shares.shares.items =
    lined_up_leave run of.count c.args.prepared.all.readies.items shares.shares.items c.requires.some
    c.clock-clock.ensures.whole of.of shares.ensures.count shares.ensures.value in record {
      whole = (left.machine c.in_order-blocks.result.items (c.in_order-blocks.ensures.count ∙ total)
          c.in_order-blocks.ensures.value).whole;
    }

pub returns-clause-ok : goal.returns-clause-ok
returns-clause-ok g c acts count lined =
    let shares = c.in_ok-shares in let k = c.args.prepared.k in
    let run : Run = record { n = g.S.Sizes.n; k = k; room = g.S.Sizes.cap; machine = c.args.machine.now.machine; acts = acts } in
    let total : 1 * 2 ^ k % 2 ^ 64 ≡ 2 ^ k =
    one_shl k 64 (omega (arith, c.requires.within, c.clock-clock.ensures.sizes.dimension)) in
    let left : LeaveTheirMachine run shares.shares.items =
    lined_up_leave run count c.args.prepared.all.readies.items shares.shares.items c.requires.some
    c.clock-clock.ensures.whole lined shares.ensures.count shares.ensures.value in
    c.join_and_keep.ensures.value
    ∙ (left.machine c.in_order-blocks.result.items (c.in_order-blocks.ensures.count ∙ total)
    c.in_order-blocks.ensures.value).same
