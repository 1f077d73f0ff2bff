use Rattle.std.proofs.Common.{◌≡◌, ◌<◌, ◌^◌, length, arith}
use Rattle.cm_model.proofs.Flips.{across_below}
use Rattle.cm_router.specs.Routes.{routing_of}
use Rattle.cm_nodes.proofs.Dimensions.{crossed_all}
use Rattle.cm_nodes.proofs.nodes.cross_nodes.Goals as goal

pub exchange-requires-clause-there : goal.exchange-requires-clause-there
exchange-requires-clause-there c =
    let here : c.loop-c.c < 2 ^ c.args.sizes.dims = omega (arith, c.requires.count) in
    omega (arith, c.requires.count, across_below c.args.sizes.dims c.args.dim c.loop-c.c c.requires.dim here)

pub returns : goal.returns
returns c =
    let all : c.loop-c.c ≡ 2 ^ c.args.sizes.dims = omega (arith, c.requires.count) in
    let long : length c.loop-c.nodes ≡ 2 ^ c.args.sizes.dims = omega (arith, c.requires.count) in
    let crossed = crossed_all (routing_of c.args.routing.now) c.args.sizes.dims c.args.sizes.room c.args.dim
    c.args.nodes.now c.loop-c.nodes c.requires.dim c.requires.count long c.requires.rooms (rw all at c.loop-c.invariant) in
    record { value = crossed.0; count = long; rooms = crossed.1 }
