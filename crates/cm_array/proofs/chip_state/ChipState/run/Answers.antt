use Rattle.std.proofs.Common.{ℕ, ◌+◌, ◌*◌, ◌^◌, ◌≤◌, List, [], ◌∷◌, ◌++◌, take, sym, ap, ◌∙◌, subst, arith}
use Rattle.std.proofs.lemmas.List.{take_more, take_all}
use Rattle.cm_model.specs.declared.act.Act.{Act}
use Rattle.cm_model.specs.Machine.{Machine, run_of}
use Rattle.cm_model.specs.Buffers.{after_act}
use Rattle.cm_model.proofs.Runs.{run_of-nil, run_of_more}
use Rattle.cm_router.specs.Logs.{log_room}
use Rattle.cm_array.specs.Acts.{cycles_in}
use Rattle.cm_array.specs.Parts.{machine_of, AreUnderWay}
use Rattle.cm_array.proofs.Machines.{AreUnderWay-parts, AreUnderWay-at_shape, at_sizes, AreParts-gathered}
use Rattle.cm_array.proofs.Machines.{machine_of-gathered}
use Rattle.cm_array.proofs.Rooms.{room_for_next, more_lost, cycles_in-more, cycles_in-part}
use Rattle.cm_array.proofs.chip_state.ChipState.run.Goals as goal

pub loop-act-init : goal.loop-act-init
loop-act-init c =
    let before = c.args.self.now in
    let n = before.shape.dims in
    let cap = before.shape.room in
    record {
      ran = sym (run_of-nil n cap (machine_of before) c.requires.state.machine.buffer_count);
      state = AreUnderWay-parts n cap before c.requires.state;
      clock = omega arith;
      room = omega arith;
    }

pub run_one-requires-clause-state : goal.run_one-requires-clause-state
run_one-requires-clause-state c =
    AreUnderWay-at_shape c.args.self.now.shape.dims c.args.self.now.shape.room c.loop-act.self c.loop-act.invariant.state

pub run_one-requires-clause-log_room : goal.run_one-requires-clause-log_room
run_one-requires-clause-log_room c =
    let acts = c.args.acts.now in
    let before = c.args.self.now in
    let now = c.loop-act.self in
    let i = c.loop-act.act-index in
    let a = c.act-item.result in
    let sized = c.loop-act.invariant.state.sized in
    let more = cycles_in-more acts i a c.loop-act-test.true c.act-item.is in
    let fits : cycles_in (take i acts) + cycles_in (a ∷ []) ≤ cycles_in acts =
    omega (arith, more, cycles_in-part acts (i + 1)) in
    at_sizes (λ n cap. cycles_in (a ∷ []) * (2 ^ n * (4 + cap)) ≤ log_room now.row) before.shape.dims before.shape.room
    now.shape.dims now.shape.room sized.dims sized.room
    (room_for_next (cycles_in acts) (cycles_in (take i acts)) (cycles_in (a ∷ []))
    (2 ^ before.shape.dims * (4 + before.shape.room)) (log_room before.row) (log_room now.row) fits
    c.requires.log_room c.loop-act.invariant.room)

pub loop-act-preserved : goal.loop-act-preserved
loop-act-preserved c =
    let acts = c.args.acts.now in
    let i = c.loop-act.act-index in
    let a = c.act-item.result in
    let before = c.args.self.now in
    let now = c.loop-act.self in
    let next = c.run_one.new.self in
    let n = before.shape.dims in
    let cap = before.shape.room in
    let first : List Act = take i acts in
    let most : ℕ = 2 ^ n * (4 + cap) in
    let dims = c.loop-act.invariant.state.sized.dims in
    let room = c.loop-act.invariant.state.sized.room in
    let more = cycles_in-more acts i a c.loop-act-test.true c.act-item.is in
    let lost : log_room now.row ≤ log_room next.row + cycles_in (a ∷ []) * most =
    at_sizes (λ d r. log_room now.row ≤ log_room next.row + cycles_in (a ∷ []) * (2 ^ d * (4 + r)))
    now.shape.dims now.shape.room n cap (sym dims) (sym room) c.run_one.ensures.log_room in
    record {
      ran = c.run_one.ensures.value
          ∙ (λ t. after_act (dims t) (room t) (machine_of now) a)
          ∙ ap (λ (m : Machine). after_act n cap m a) c.loop-act.invariant.ran
          ∙ sym (run_of_more n cap (machine_of before) first a)
          ∙ ap (run_of n cap (machine_of before))
          (ap (λ (x : Act). first ++ x ∷ []) c.act-item.is ∙ sym (take_more acts i a c.loop-act-test.true));
      state = at_sizes (λ d r. AreUnderWay d r next) now.shape.dims now.shape.room n cap (sym dims) (sym room)
          c.run_one.ensures.state;
      clock = omega (arith, c.run_one.ensures.clock, c.loop-act.invariant.clock, more);
      room = subst (λ (count : ℕ). log_room before.row ≤ log_room next.row + count * most) (sym more)
          (more_lost (cycles_in first) (cycles_in (a ∷ [])) most (log_room before.row) (log_room now.row)
          (log_room next.row) c.loop-act.invariant.room lost);
    }

pub returns : goal.returns
returns c =
    let acts = c.args.acts.now in
    let before = c.args.self.now in
    let all = take_all c.loop-act.act-index acts c.loop-act-test.false in
    record {
      value = machine_of-gathered c.loop-act.self c.gather.new.self c.gather.ensures.value
          ∙ c.loop-act.invariant.ran
          ∙ ap (run_of before.shape.dims before.shape.room (machine_of before)) all;
      state = AreParts-gathered before.shape.dims before.shape.room c.loop-act.self
          c.gather.new.self c.gather.ensures.value
          c.gather.ensures.gathered c.loop-act.invariant.state;
    }
