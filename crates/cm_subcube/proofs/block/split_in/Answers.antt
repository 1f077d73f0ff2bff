use Rattle.std.proofs.Common.{ℕ, ◌*◌, ◌+◌, List, map, sym, ap, ◌∙◌, subst, arith}
use Rattle.std.specs.List.{All}
use Rattle.std.proofs.lemmas.List.Elements.{All-nil}
use Rattle.cm_blocks.specs.Parts.{Part, block}
use Rattle.cm_subcube.specs.Blocks.{BlockView, IsFresh}
use Rattle.cm_subcube.proofs.Blocking.{parts-more, fresh-more, none_yet}
use Rattle.cm_subcube.proofs.block.split_in.Goals as goal

pub loop-b-init : goal.loop-b-init
loop-b-init g c =
    let parts : ℕ → Part = λ b. block g.S.Sizes.n c.args.k b c.args.machine.now.machine in
    let fresh : BlockView → Type 0 = IsFresh g.S.Sizes.n g.S.Sizes.cap c.args.k (c.args.cycles * (4 + g.S.Sizes.cap)) in
    record {
      parts = none_yet parts c.in_ok-blocks.blocks.items c.in_ok-blocks.ensures.none;
      fresh = subst (All fresh) (sym c.in_ok-blocks.ensures.none) (All-nil fresh);
      len = c.in_ok-blocks.ensures.len;
      room = omega (arith, c.in_ok-blocks.ensures.room, c.from.ensures);
    }

pub loop-b-preserved : goal.loop-b-preserved
loop-b-preserved g c =
    let parts : ℕ → Part = λ b. block g.S.Sizes.n c.args.k b c.args.machine.now.machine in
    let events = c.args.cycles * (4 + g.S.Sizes.cap) in
    let were = c.loop-b.invariant in
    let blocks : List BlockView = c.loop-b.blocks.items in
    let one : BlockView = c.in_ok-block.block in
    let is = c.push_reserved.ensures.items in
    record {
      parts = ap (map (λ (x : BlockView). x.kept.part)) is
          ∙ parts-more parts c.loop-b.b blocks one were.parts c.in_ok-block.ensures.value;
      fresh = subst (All (IsFresh g.S.Sizes.n g.S.Sizes.cap c.args.k events)) (sym is)
          (fresh-more g.S.Sizes.n g.S.Sizes.cap c.args.k events blocks one were.fresh c.in_ok-block.ensures.fresh);
      len = omega (arith, c.push_reserved.ensures.len, were.len);
      room = omega (arith, c.push_reserved.ensures.capacity, were.room);
    }
