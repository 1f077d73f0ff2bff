use Rattle.std.proofs.Common.{List, sym, ap, ◌∙◌, subst}
use Rattle.cm_bits.specs.Wire.{Wire}
use Rattle.cm_model.specs.Wiring.{AreRising}
use Rattle.cm_router.specs.Cuts.{CubeCuts, with_wire}
use Rattle.cm_router.proofs.Cutting.{one_more_taken}
use Rattle.cm_router.proofs.cuts.Cuts.copy_from.Goals as goal

pub loop-edge-preserved : goal.loop-edge-preserved
loop-edge-preserved c =
    let wires = c.edges-edges.result.now in
    let i = c.loop-edge.edge-index in
    let edge = c.edge-item.result in
    let rising = subst (λ (ws : List Wire). AreRising ws) (sym c.edges-edges.ensures.value) c.edges-edges.ensures.whole.rising in
    c.add.ensures.value
    ∙ ap (λ (cuts : CubeCuts). record cuts { wires = with_wire edge cuts.wires }) c.loop-edge.invariant
    ∙ (λ j. record {
      dims = c.args.self.now.dims;
      wires = one_more_taken wires i edge rising c.loop-edge-test.true c.edge-item.is j;
    })
