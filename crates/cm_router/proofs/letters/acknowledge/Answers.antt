use Rattle.std.proofs.Common.{◌<◌, length, length-set, ap, ◌∙◌, arith}
use Rattle.cm_router.proofs.Recording.{records_stay}
use Rattle.cm_router.proofs.letters.acknowledge.Goals as goal

pub returns-clause-records : goal.returns-clause-records
returns-clause-records c = λ held are.
    let first = c.poke_flag_plane.ensures.value in
    let inside : c.args.chip < length c.poke_flag_plane.new.self =
    omega (arith, c.requires.chip, ap length first ∙ length-set c.args.run.now c.args.chip _) in
    records_stay held c.poke_flag_plane.new.self c.poke_flag_plane-2.new.self c.args.chip _ _ inside
    c.poke_flag_plane-2.ensures.value
    (records_stay held c.args.run.now c.poke_flag_plane.new.self c.args.chip _ _ c.requires.chip first are)
