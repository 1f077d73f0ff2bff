use Rattle.std.proofs.Common.{◌∷◌, [], map, arith}
use Rattle.std.specs.List.{range_with_len}
use Rattle.std.proofs.lemmas.List.FromFn.{map-range_with_len_more}
use Rattle.cm_model.specs.Steps.{Cross}
use Rattle.cm_subcube.proofs.Going.{HasGone-append}
use Rattle.cm_subcube.proofs.block.Block.cross_within.Goals as goal

pub loop-dim-preserved : goal.loop-dim-preserved
loop-dim-preserved c =
    let d = c.loop-dim.dim in
    rw (map-range_with_len_more Cross 0 d d (omega arith)) (HasGone-append (map Cross (range_with_len 0 d))
    (Cross d ∷ []) c.args.self.now c.loop-dim.self c.cross.new.self c.loop-dim.invariant c.cross.ensures.gone)
