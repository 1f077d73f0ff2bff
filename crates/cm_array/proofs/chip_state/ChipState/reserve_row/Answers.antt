use Rattle.std.proofs.Common.{◌≡◌, ◌+◌, ◌*◌, ◌^◌, ◌<◌, ◌≤◌, ℕ, sym, subst, ◌∙◌, arith}
use Rattle.std.proofs.lemmas.Nat.{pow_pos}
use Rattle.cm_router.specs.Logs.{log_room}
use Rattle.cm_array.specs.Parts.{LacksLogRoom, shares}
use Rattle.cm_array.proofs.Rooms.{on_err_from, on_ok_from, share_lacks}
use Rattle.cm_array.proofs.Machines.{length-logs, AreUnderWay-parts, AreParts-with_row, machine_of-with_row}
use Rattle.cm_array.proofs.chip_state.ChipState.reserve_row.Goals as goal

pub returns-clause-machine : goal.returns-clause-machine
returns-clause-machine c = machine_of-with_row c.args.self.now c.make_room.new.log c.make_room.ensures.items

pub returns-clause-state : goal.returns-clause-state
returns-clause-state c =
    let before = c.args.self.now in
    AreParts-with_row before.shape.dims before.shape.room before c.make_room.new.log c.make_room.ensures.items
    c.requires.state

pub returns-clause-ok : goal.returns-clause-ok
returns-clause-ok c =
    let before = c.args.self.now in
    let n = before.shape.dims in
    let most : ℕ = c.chips.result * (4 + c.from.result) in
    let all : c.chips.result ≡ 2 ^ n = c.chips.ensures.value ∙ c.requires.state.machine.chip_count in
    let same : most ≡ 2 ^ n * (4 + before.shape.room) = (λ t. all t * (4 + c.from.ensures t)) in
    on_ok_from c.make_room.result
    (λ fits.
    let room : c.args.cycles * most ≤ log_room c.make_room.new.log = omega (arith, fits) in
    subst (λ (k : ℕ). c.args.cycles * k ≤ log_room c.make_room.new.log) same room)
    c.make_room.ensures.ok

pub returns-clause-err : goal.returns-clause-err
returns-clause-err c =
    let before = c.args.self.now in
    let n = before.shape.dims in
    let cap = before.shape.room in
    let most : ℕ = c.chips.result * (4 + c.from.result) in
    let all : c.chips.result ≡ 2 ^ n = c.chips.ensures.value ∙ c.requires.state.machine.chip_count in
    let same : most ≡ 2 ^ n * (4 + cap) = (λ t. all t * (4 + c.from.ensures t)) in
    let logs = length-logs n cap before (AreUnderWay-parts n cap before c.requires.state) in
    on_err_from c.make_room.result
    (λ full.
    let short : log_room before.row < c.args.cycles * most = omega (arith, full) in
    subst (λ (k : ℕ). LacksLogRoom (c.args.cycles * (4 + cap)) (shares k (log_room before.row))) (sym logs)
    (share_lacks (2 ^ n) c.args.cycles (4 + cap) (log_room before.row) (pow_pos n)
    (subst (λ (k : ℕ). log_room before.row < c.args.cycles * k) same short)))
    c.make_room.ensures.full
