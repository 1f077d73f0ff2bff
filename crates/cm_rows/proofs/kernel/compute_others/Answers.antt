use Rattle.std.proofs.Common.{◌≡◌, false, ℕ, ◌+◌, ◌-◌, ◌*◌, ◌/◌, length, take, arith}
use Rattle.std.proofs.lemmas.List.{length-take-le}
use Rattle.cm_rows.proofs.Joining.{joined, to_there, unread, within, AreUnread}
use Rattle.cm_rows.proofs.kernel.compute_others.Goals as goal

pub returns-clause-memory : goal.returns-clause-memory
returns-clause-memory c =
    let at = c.args.at in
    let mid : ℕ = 256 * (c.args.whole / 8) in
    let to : ℕ = 32 * c.args.whole in
    let rest : ℕ = 32 * c.args.whole - 256 * (c.args.whole / 8) in
    let long : length c.compute_tiles.new.choice ≡ 256 = c.compute_tiles.auto.choice in
    let part : length (take rest c.compute_tiles.new.choice) ≡ rest =
    length-take-le rest c.compute_tiles.new.choice (omega (arith, long)) in
    let there : mid + length (take rest c.compute_tiles.new.choice) ≡ to = omega (arith, part) in
    let same : AreUnread at mid to c.args.memory.now c.compute_tiles.new.memory c.args.flags.now
    c.compute_tiles.new.flags =
    unread at 0 mid to c.args.memory.now c.compute_tiles.new.memory c.args.flags.now c.compute_tiles.new.flags
    (within c.args.tables.0 false c.args.always c.args.sense at at.a 0 mid c.args.memory.now c.args.flags.now
    c.args.memory.now c.compute_tiles.new.memory c.compute_tiles.ensures.memory)
    (within c.args.tables.1 c.args.chained c.args.always c.args.sense at at.write 0 mid c.args.memory.now
    c.args.flags.now c.args.flags.now c.compute_tiles.new.flags c.compute_tiles.ensures.flags)
    c.requires.apart in
    joined c.args.tables.0 false c.args.always c.args.sense at at.a 0 mid to c.args.memory.now
    c.compute_tiles.new.memory c.args.flags.now c.compute_tiles.new.flags c.args.memory.now c.compute_tiles.new.memory
    c.tile.new.memory
    (omega arith) (omega arith) c.compute_tiles.ensures.memory
    (to_there c.args.tables.0 false c.args.always c.args.sense at at.a mid
    (mid + length (take rest c.compute_tiles.new.choice)) to c.compute_tiles.new.memory c.compute_tiles.new.flags
    c.compute_tiles.new.memory c.tile.new.memory there c.tile.ensures.memory)
    same

pub returns-clause-flags : goal.returns-clause-flags
returns-clause-flags c =
    let at = c.args.at in
    let mid : ℕ = 256 * (c.args.whole / 8) in
    let to : ℕ = 32 * c.args.whole in
    let rest : ℕ = 32 * c.args.whole - 256 * (c.args.whole / 8) in
    let long : length c.compute_tiles.new.choice ≡ 256 = c.compute_tiles.auto.choice in
    let part : length (take rest c.compute_tiles.new.choice) ≡ rest =
    length-take-le rest c.compute_tiles.new.choice (omega (arith, long)) in
    let there : mid + length (take rest c.compute_tiles.new.choice) ≡ to = omega (arith, part) in
    let same : AreUnread at mid to c.args.memory.now c.compute_tiles.new.memory c.args.flags.now
    c.compute_tiles.new.flags =
    unread at 0 mid to c.args.memory.now c.compute_tiles.new.memory c.args.flags.now c.compute_tiles.new.flags
    (within c.args.tables.0 false c.args.always c.args.sense at at.a 0 mid c.args.memory.now c.args.flags.now
    c.args.memory.now c.compute_tiles.new.memory c.compute_tiles.ensures.memory)
    (within c.args.tables.1 c.args.chained c.args.always c.args.sense at at.write 0 mid c.args.memory.now
    c.args.flags.now c.args.flags.now c.compute_tiles.new.flags c.compute_tiles.ensures.flags)
    c.requires.apart in
    joined c.args.tables.1 c.args.chained c.args.always c.args.sense at at.write 0 mid to c.args.memory.now
    c.compute_tiles.new.memory c.args.flags.now c.compute_tiles.new.flags c.args.flags.now c.compute_tiles.new.flags
    c.tile.new.flags
    (omega arith) (omega arith) c.compute_tiles.ensures.flags
    (to_there c.args.tables.1 c.args.chained c.args.always c.args.sense at at.write mid
    (mid + length (take rest c.compute_tiles.new.choice)) to c.compute_tiles.new.memory c.compute_tiles.new.flags
    c.compute_tiles.new.flags c.tile.new.flags there c.tile.ensures.flags)
    same
