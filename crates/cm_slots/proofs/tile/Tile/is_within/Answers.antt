use Rattle.std.proofs.Common.{◌≡◌, ◌-◌, suc, refl, arith}
use Rattle.cm_slots.proofs.Standing.{row_ends}
use Rattle.cm_slots.proofs.tile.Tile.is_within.Goals as goal

pub returns-then-room-eq0 : goal.returns-then-room-eq0
returns-then-room-eq0 c =
    let ends = row_ends 0 c.args.self.now c.requires.whole in
    let blank = c.is_quiet.ensures.none in
    rw c.if-room-eq0.true (record { within = (λ yes. ends.0 (blank.0 yes), λ few. blank.1 (ends.1 few)) })

pub returns-then-room-lt-ROOM : goal.returns-then-room-lt-ROOM
returns-then-room-lt-ROOM c =
    let more : c.args.room ≡ suc (c.args.room - 1) = omega (arith, c.if-room-eq0.false) in
    let ends = row_ends (suc (c.args.room - 1)) c.args.self.now c.requires.whole in
    let blank = c.is_blank.ensures.none in
    rw more (record { within = (λ yes. ends.0 (blank.0 yes), λ few. blank.1 (ends.1 few)) })

pub returns-else-room-lt-ROOM : goal.returns-else-room-lt-ROOM
returns-else-room-lt-ROOM c = record {
  within = (λ yes i h. omega (arith, (c.requires.whole.queues i h).fits, c.if-room-lt-ROOM.false), λ few. refl);
}
