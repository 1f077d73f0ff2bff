use Rattle.std.proofs.Common.{◌≡◌, ◌+◌, ◌*◌, ◌^◌, ◌≤◌, take}
use Rattle.cm_model.specs.Machine.{run_of}
use Rattle.cm_router.specs.Logs.{log_room}
use Rattle.cm_array.specs.Acts.{cycles_in}
use Rattle.cm_array.specs.Parts.{machine_of, AreUnderWay}
use Rattle.cm_array.proofs.chip_state.ChipState.run.Given as goal

abbrev pub invariant-loop-act : goal.invariant-loop-act
invariant-loop-act l = record {
  ran : machine_of l.self ≡ run_of l.fn.self.shape.dims l.fn.self.shape.room (machine_of l.fn.self) (take l.act-index l.acts);
  state : AreUnderWay l.fn.self.shape.dims l.fn.self.shape.room l.self;
  clock : l.self.clock ≡ l.fn.self.clock + cycles_in (take l.act-index l.acts);
  room : log_room l.fn.self.row
      ≤ log_room l.self.row + cycles_in (take l.act-index l.acts) * (2 ^ l.fn.self.shape.dims * (4 + l.fn.self.shape.room));
}
