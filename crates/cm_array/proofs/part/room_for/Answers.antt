use Rattle.cm_array.specs.Cuts.{IsRoomFor}
use Rattle.cm_array.specs.Fresh.{IsBlankState}
use Rattle.cm_array.proofs.Cutting.{IsRoomFor-blank}
use Rattle.cm_array.proofs.Rooms.{if_ok_from}
use Rattle.cm_array.proofs.part.room_for.Goals as goal

pub returns-in_default : goal.returns-in_default
returns-in_default c =
    let n = c.args.shape.dims in
    let cap = c.args.shape.room in
    let chips = c.args.chips in
    record {
      value = if_ok_from (IsBlankState n cap chips 0) (IsRoomFor n cap chips) c.blank.result
          (IsRoomFor-blank n cap chips 0) c.blank.ensures.value;
    }
