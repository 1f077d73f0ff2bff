use Rattle.std.proofs.Common.{◌≡◌, ◌∙◌, false, Ok, sym}
use Rattle.cm_image_format.specs.Whole.{read_shape}
use Rattle.cm_sizes.specs.Sizes.{is_own_room}
use Rattle.cm_sizes.proofs.Opened.{foreign}
use Rattle.cm_sizes.proofs.opening.open_image.Goals as goal

pub returns-then-not-is_own_room-clause-refused : goal.returns-then-not-is_own_room-clause-refused
returns-then-not-is_own_room-clause-refused c =
    let is = c.in-Ok.ensures.value in
    let shape : read_shape c.args.image.now ≡ Ok (c.in-Ok.sizes.0, c.in-Ok.sizes.1) = cc in
    let own : is_own_room c.in-Ok.sizes.1 ≡ false = sym c.is_own_room.ensures.value ∙ c.if-not-is_own_room.true in
    foreign c.args.image.now c.in-Ok.sizes.0 c.in-Ok.sizes.1 shape own
