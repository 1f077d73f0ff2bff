use Rattle.std.proofs.Common.{not, sym, ap, ◌∙◌}
use Rattle.cm_router.specs.Routes.{routing_of}
use Rattle.cm_router.proofs.Cutting.{whole_over, not_so}
use Rattle.cm_router.proofs.routing.Routing.is_whole_over.Goals as goal

pub returns : goal.returns
returns c = record {
  value = ap not c.has_any.ensures.value;
  whole = λ is.
      whole_over (routing_of c.args.self.now) c.args.dim (sym c.has_any.ensures.value ∙ not_so c.has_any.result is);
}
