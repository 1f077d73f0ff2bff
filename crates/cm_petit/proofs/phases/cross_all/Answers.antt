use Rattle.std.proofs.Common.{◌≡◌, [], refl, ◌∙◌, arith}
use Rattle.cm_router.specs.Routes.{routing_of}
use Rattle.cm_petit.specs.Routers.{machine_from}
use Rattle.cm_petit.proofs.Cycling.{crossed_by_one_way, crossed_more, nothing_crosses}
use Rattle.cm_petit.proofs.phases.cross_all.Goals as goal

pub returns-then-is_empty-clause-value : goal.returns-then-is_empty-clause-value
returns-then-is_empty-clause-value c = λ chips logs clock.
    nothing_crosses c.args.sizes.dims c.args.sizes.room
    (machine_from (routing_of c.args.routing.now) chips c.args.crossing.now.buffers logs clock)
    c.args.sizes.bounds.some_room c.requires.count
    (λ k l. c.is_empty.ensures.none.0 c.if-is_empty.true k [] (omega (arith, l, c.requires.count))) c.args.sizes.dims
    (omega arith)

pub loop-dim-init : goal.loop-dim-init
loop-dim-init c = record {
  crossed = λ chips logs clock. refl;
  count = c.requires.count;
  within = c.requires.within;
}

pub loop-dim-preserved : goal.loop-dim-preserved
loop-dim-preserved c = record {
  crossed = λ chips logs clock.
      crossed_more c.args.sizes.dims c.args.sizes.room _ c.loop-dim.dim (c.loop-dim.invariant.crossed chips logs clock)
      (c.cross.ensures.value
      ∙ crossed_by_one_way (routing_of c.args.routing.now) c.args.sizes.dims c.args.sizes.room c.loop-dim.dim
      c.loop-dim.crossing.buffers);
  count = c.cross.ensures.count;
  within = c.cross.ensures.within;
}

pub returns-clause-value : goal.returns-clause-value
returns-clause-value c = λ chips logs clock.
    let all : c.loop-dim.dim ≡ c.args.sizes.dims = omega arith in
    rw all at (c.loop-dim.invariant.crossed chips logs clock)
