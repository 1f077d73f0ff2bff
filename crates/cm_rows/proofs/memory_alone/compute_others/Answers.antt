use Rattle.std.proofs.Common.{◌≡◌, false, ℕ, ◌+◌, ◌-◌, ◌*◌, ◌/◌, length, take, arith}
use Rattle.std.proofs.lemmas.List.{length-take-le}
use Rattle.cm_rows.proofs.Joining.{joined, to_there, unread_memory, within}
use Rattle.cm_rows.proofs.memory_alone.compute_others.Goals as goal

pub returns : goal.returns
returns c =
    let at = c.args.at in
    let mid : ℕ = 256 * (c.args.whole / 8) in
    let to : ℕ = 32 * c.args.whole in
    let rest : ℕ = 32 * c.args.whole - 256 * (c.args.whole / 8) in
    let long : length c.compute_tiles.new.choice ≡ 256 = c.compute_tiles.auto.choice in
    let part : length (take rest c.compute_tiles.new.choice) ≡ rest =
    length-take-le rest c.compute_tiles.new.choice (omega (arith, long)) in
    let there : mid + length (take rest c.compute_tiles.new.choice) ≡ to = omega (arith, part) in
    record {
      memory = joined c.args.table false c.args.always c.args.sense at at.a 0 mid to c.args.memory.now
          c.compute_tiles.new.memory c.args.flags.now c.args.flags.now c.args.memory.now c.compute_tiles.new.memory
          c.tile.new.memory
          (omega arith) (omega arith) c.compute_tiles.ensures.memory
          (to_there c.args.table false c.args.always c.args.sense at at.a mid
          (mid + length (take rest c.compute_tiles.new.choice)) to c.compute_tiles.new.memory c.args.flags.now
          c.compute_tiles.new.memory c.tile.new.memory there c.tile.ensures.memory)
          (unread_memory at 0 mid to c.args.memory.now c.compute_tiles.new.memory c.args.flags.now
          (within c.args.table false c.args.always c.args.sense at at.a 0 mid c.args.memory.now c.args.flags.now
          c.args.memory.now c.compute_tiles.new.memory c.compute_tiles.ensures.memory)
          c.requires.b_apart);
    }
