use Rattle.std.proofs.Common.{None, get_or, sym, subst, arith}
use Rattle.cm_subcube.specs.Blocks.{BlockView, CanGo, HasGone}
use Rattle.cm_subcube.specs.Local.{local_after}
use Rattle.cm_weave.proofs.Beginning.{just_cut, can_begin, one_more_begun}
use Rattle.cm_weave.proofs.first.first_blocks.Goals as goal

pub loop-b-init : goal.loop-b-init
loop-b-init g c =
    just_cut g.S.Sizes.n g.S.Sizes.cap c.args.k c.args.cycles c.args.machine.now.machine c.args.acts.now c.in-Ok.blocks.items
    c.in-Ok.ensures.value c.in-Ok.ensures.fresh c.requires.cycles c.requires.clock

pub local-requires-clause-log_room : goal.local-requires-clause-log_room
local-requires-clause-log_room g c =
    let d = c.index_mut.result.now in
    let count = (just_cut g.S.Sizes.n g.S.Sizes.cap c.args.k c.args.cycles c.args.machine.now.machine c.args.acts.now
    c.in-Ok.blocks.items c.in-Ok.ensures.value c.in-Ok.ensures.fresh c.requires.cycles c.requires.clock).count in
    (subst (λ (z : BlockView). CanGo (local_after z.kept.dims z.k c.args.acts.now None) z)
    (sym c.index_mut.ensures.value)
    (can_begin g.S.Sizes.n g.S.Sizes.cap c.args.k c.loop-b.b c.args.machine.now.machine c.args.acts.now
    (get_or c.loop-b.blocks.items c.loop-b.b d)
    (c.loop-b.invariant.cut c.loop-b.b d (omega arith)
    (omega (
      arith,
      c.loop-b-test.true,
      c.loop-b.auto.b-end,
      c.len-b-end.ensures,
      c.in-Ok.blocks.ok.0,
      count,
    ))))).log_room

pub local-requires-clause-clock : goal.local-requires-clause-clock
local-requires-clause-clock g c =
    let d = c.index_mut.result.now in
    let count = (just_cut g.S.Sizes.n g.S.Sizes.cap c.args.k c.args.cycles c.args.machine.now.machine c.args.acts.now
    c.in-Ok.blocks.items c.in-Ok.ensures.value c.in-Ok.ensures.fresh c.requires.cycles c.requires.clock).count in
    (subst (λ (z : BlockView). CanGo (local_after z.kept.dims z.k c.args.acts.now None) z)
    (sym c.index_mut.ensures.value)
    (can_begin g.S.Sizes.n g.S.Sizes.cap c.args.k c.loop-b.b c.args.machine.now.machine c.args.acts.now
    (get_or c.loop-b.blocks.items c.loop-b.b d)
    (c.loop-b.invariant.cut c.loop-b.b d (omega arith)
    (omega (
      arith,
      c.loop-b-test.true,
      c.loop-b.auto.b-end,
      c.len-b-end.ensures,
      c.in-Ok.blocks.ok.0,
      count,
    ))))).clock

pub loop-b-preserved : goal.loop-b-preserved
loop-b-preserved g c =
    let d = c.index_mut.result.now in
    let new = c.local.new.self in
    let count = (just_cut g.S.Sizes.n g.S.Sizes.cap c.args.k c.args.cycles c.args.machine.now.machine c.args.acts.now
    c.in-Ok.blocks.items c.in-Ok.ensures.value c.in-Ok.ensures.fresh c.requires.cycles c.requires.clock).count in
    let gone : HasGone (local_after d.kept.dims d.k c.args.acts.now None) d new =
    record {
      part = c.local.ensures.value;
      dims = c.local.ensures.dims;
      room = c.local.ensures.room;
      blocks = c.local.ensures.blocks;
      log_room = c.local.ensures.log_room;
    } in
    one_more_begun g.S.Sizes.n g.S.Sizes.cap c.args.k c.loop-b.b c.args.machine.now.machine c.args.acts.now
    c.loop-b.blocks.items d new
    (omega (
      arith,
      c.loop-b-test.true,
      c.loop-b.auto.b-end,
      c.len-b-end.ensures,
      c.in-Ok.blocks.ok.0,
      count,
      c.loop-b.invariant.count,
    ))
    c.loop-b.invariant
    (subst (λ (z : BlockView). HasGone (local_after z.kept.dims z.k c.args.acts.now None) z new)
    c.index_mut.ensures.value gone)
