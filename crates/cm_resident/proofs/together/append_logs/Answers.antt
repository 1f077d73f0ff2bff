use Rattle.std.proofs.Common.{rules, ℕ, ◌<◌, ◌≤◌, length, get_or, refl, arith}
use Rattle.cm_router.specs.Logs.{Log, log_room}
use Rattle.cm_array.proofs.Behind.{room_behind, all_behind}
use Rattle.cm_resident.proofs.together.append_logs.Goals as goal

pub each_behind-requires-clause-room : goal.each_behind-requires-clause-room
each_behind-requires-clause-room g c =
    let room : (k : ℕ) (d e : Log) → k < length c.args.logs.now
    → length (get_or c.args.more.now k d).items ≤ log_room (get_or c.args.logs.now k e) =
    λ k d e l. room_behind c.args.logs.now c.args.logs.now c.args.more.now k e d l (omega (arith, l, c.requires.count)) refl
    c.requires.room in
    search (rules, room)

pub returns : goal.returns
returns g c = record {
  value = all_behind c.each_behind.new.logs c.args.logs.now c.args.more.now c.each_behind.ensures.count c.requires.count
      c.each_behind.ensures.value;
}
