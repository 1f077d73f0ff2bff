use Rattle.std.proofs.Common.{◌==◌, ap, ◌∙◌}
use Rattle.std.specs.List.{list_any}
use Rattle.cm_router.specs.Cuts.{CubeCuts}
use Rattle.cm_router.proofs.cuts.Cuts.has_any.Goals as goal

pub returns : goal.returns
returns c = record {
  value = c.has_bit.ensures.value
      ∙ (c.self.invariant.by_dimension c.args.dim
      ∙ ap (λ (cuts : CubeCuts). list_any (λ w. w.dim == c.args.dim) cuts.wires) c.self.view_is);
}
