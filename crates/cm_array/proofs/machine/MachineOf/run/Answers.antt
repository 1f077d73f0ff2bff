use Rattle.std.proofs.Common.{◌≡◌, ℕ, ◌+◌, ◌*◌, ◌^◌, ◌≤◌, rules, subst, sym, ap, arith}
use Rattle.cm_model.specs.Machine.{Machine}
use Rattle.cm_router.specs.Logs.{log_room}
use Rattle.cm_array.specs.declared.chip_state.ChipState.{ChipState}
use Rattle.cm_array.specs.Parts.{AreParts, MachineView}
use Rattle.cm_array.proofs.Machines.{at_sizes, AreParts-at_shape}
use Rattle.cm_array.proofs.machine.MachineOf.run.Goals as goal

-- what holds of the sizes of a shape holds of those that they are
at_own : (n cap : ℕ) (old new : ChipState) → old.shape.dims ≡ n → old.shape.room ≡ cap
    → AreParts old.shape.dims old.shape.room new → AreParts n cap new
at_own n cap old new dims room h =
    at_sizes (λ d r. AreParts d r new) old.shape.dims old.shape.room n cap (sym dims) (sym room) h

pub pass_time-requires-clause-state : goal.pass_time-requires-clause-state
pass_time-requires-clause-state g c = AreParts-at_shape g.S.Sizes.n g.S.Sizes.cap c.self.inside.state c.self.invariant

pub reserve_row-requires-clause-state : goal.reserve_row-requires-clause-state
reserve_row-requires-clause-state g c =
    AreParts-at_shape c.self.inside.state.shape.dims c.self.inside.state.shape.room c.pass_time.new.self
    c.pass_time.ensures.state

pub run-requires-clause-state : goal.run-requires-clause-state
run-requires-clause-state g c =
    AreParts-at_shape c.pass_time.new.self.shape.dims c.pass_time.new.self.shape.room c.reserve_row.new.self
    c.reserve_row.ensures.state

pub run-requires-clause-clock : goal.run-requires-clause-clock
run-requires-clause-clock g c =
    let same : c.pass_time.new.self ≡ c.self.inside.state = c.pass_time.ensures.same (search rules) in
    omega (
      arith,
      ap (λ (m : Machine). m.clock) c.reserve_row.ensures.machine,
      ap (λ (s : ChipState). s.clock) same,
      ap (λ (kept : MachineView). kept.machine.clock) c.self.view_is,
      c.requires.clock,
      c.requires.cycles,
    )

pub run-requires-clause-log_room : goal.run-requires-clause-log_room
run-requires-clause-log_room g c =
    let was = c.pass_time.new.self in
    let now = c.reserve_row.new.self in
    let sized = c.reserve_row.ensures.state.sized in
    subst (λ (k : ℕ). k * (2 ^ now.shape.dims * (4 + now.shape.room)) ≤ log_room now.row) c.requires.cycles
    (at_sizes (λ d r. c.args.cycles * (2 ^ d * (4 + r)) ≤ log_room now.row) was.shape.dims was.shape.room
    now.shape.dims now.shape.room sized.dims sized.room c.in_ok-reserve_row.ensures.ok)
