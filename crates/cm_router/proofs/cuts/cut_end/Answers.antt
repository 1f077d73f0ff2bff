use Rattle.std.proofs.Common.{set, bit_or, ◌%◌, ◌*◌, ◌^◌, ◌∙◌, arith}
use Rattle.std.proofs.lemmas.Grind.{get_or_default_zero}
use Rattle.cm_router.specs.Cuts.{is_cut_at}
use Rattle.cm_router.proofs.Cutting.{one_end}
use Rattle.cm_router.proofs.cuts.cut_end.Goals as goal

pub returns-clause-value : goal.returns-clause-value
returns-clause-value c i d =
    let was = c.index_mut.ensures.value
    ∙ get_or_default_zero c.args.rows.now.items c.args.chip c.index_mut.result.now c.requires.chip in
    (λ j. is_cut_at (set c.args.rows.now.items c.args.chip (bit_or (was j) (1 * 2 ^ c.args.dim % 65536))) i d)
    ∙ one_end c.args.rows.now.items c.args.chip c.args.dim i d c.requires.chip (omega (arith, c.requires.dimension))
