use Rattle.std.proofs.Common.{not, sym, ap, ◌∙◌}
use Rattle.cm_router.specs.Routes.{routing_of}
use Rattle.cm_router.proofs.Cutting.{plain_over, not_so}
use Rattle.cm_router.proofs.routing.Routing.is_plain_over.Goals as goal

pub returns-in-First : goal.returns-in-First
returns-in-First c = record {
  value = rw c.in-First.is (ap not c.has_any.ensures.value);
  plain = λ is.
      plain_over (routing_of c.args.self.now) c.args.dim c.in-First.is
      (sym c.has_any.ensures.value ∙ not_so c.has_any.result is);
}
