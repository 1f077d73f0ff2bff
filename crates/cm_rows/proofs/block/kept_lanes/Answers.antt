use Rattle.std.proofs.Common.{get_or, ◌∙◌}
use Rattle.cm_bits.specs.Bit.{bit}
use Rattle.cm_model.proofs.Bits.{differ_chosen}
use Rattle.cm_rows.proofs.Lanes.{bit-kept_lanes, length-kept_lanes}
use Rattle.cm_rows.proofs.block.kept_lanes.Goals as goal

pub returns-clause-count : goal.returns-clause-count
returns-clause-count g c = length-kept_lanes g.row.L c.args.choice c.args.old c.output_lanes-output.result c.requires.choice
    c.requires.old c.output_lanes-output.ensures.count

pub returns-clause-value : goal.returns-clause-value
returns-clause-value g c = λ k h p below. rw (← c.output_lanes-output.ensures.value k h p below)
    (bit-kept_lanes g.row.L c.args.choice c.args.old c.output_lanes-output.result c.requires.choice c.requires.old
    c.output_lanes-output.ensures.count k h p
    ∙ differ_chosen (bit (get_or c.args.choice k 0) p) (bit (get_or c.args.old k 0) p)
    (bit (get_or c.output_lanes-output.result k 0) p))
