use Rattle.std.proofs.Common.{◌≡◌, true, false, refl, ap}
use Rattle.cm_model.specs.Steps.{Instruct}
use Rattle.cm_blocks.specs.Rounds.{is_round}
use Rattle.cm_subcube.specs.Blocks.{BlockView}
use Rattle.cm_subcube.proofs.Going.{HasGone-none, HasGone-look}
use Rattle.cm_subcube.proofs.block.Block.go_through.Goals as goal

pub returns-then-is_exchange : goal.returns-then-is_exchange
returns-then-is_exchange c =
    let old : BlockView = c.args.self.now in
    let cut : c.self.inside.k ≡ old.k = ap (λ (b : BlockView). b.k) c.self.view_is in
    let round : is_round old.kept.dims old.k (Instruct c.in-Nano.nano) ≡ true =
    cc (cut, c.is_exchange.ensures.value old.kept.dims, c.if-is_exchange.true) in
    rw (c.in-Nano.is, round) (record { gone = HasGone-none old; through = refl })

pub instruct-requires : goal.instruct-requires
instruct-requires c =
    let old : BlockView = c.args.self.now in
    let cut : c.self.inside.k ≡ old.k = ap (λ (b : BlockView). b.k) c.self.view_is in
    record { local = cc (cut, c.is_exchange.ensures.value old.kept.dims, c.if-is_exchange.false) }

pub returns-else-is_exchange : goal.returns-else-is_exchange
returns-else-is_exchange c =
    let old : BlockView = c.args.self.now in
    let cut : c.self.inside.k ≡ old.k = ap (λ (b : BlockView). b.k) c.self.view_is in
    let local : is_round old.kept.dims old.k (Instruct c.in-Nano.nano) ≡ false =
    cc (cut, c.is_exchange.ensures.value old.kept.dims, c.if-is_exchange.false) in
    rw (c.in-Nano.is, local) (record { gone = c.instruct.ensures.gone; through = refl })

pub returns-in-Sense-clause-gone : goal.returns-in-Sense-clause-gone
returns-in-Sense-clause-gone c = rw c.in-Sense.is (HasGone-look c.args.self.now)
