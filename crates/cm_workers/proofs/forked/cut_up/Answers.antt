use Rattle.std.proofs.Common.{◌∙◌, ℕ, ap}
use Rattle.cm_workers.specs.Posts.{blank_post}
use Rattle.cm_workers.proofs.Forking.{stand_first}
use Rattle.cm_workers.proofs.forked.cut_up.Goals as goal

pub returns : goal.returns
returns g c = record {
  value = λ acts counted.
      stand_first g.S.Sizes.n g.S.Sizes.cap c.args.sizes.k c.args.cycles c.args.machine.now.machine acts c.in-Ok.blocks.items
      c.in_ok-posts.posts.items
      c.in-Ok.ensures.value c.in-Ok.ensures.fresh (c.in_ok-posts.ensures.count ∙ c.len.ensures ∙ c.in-Ok.blocks.ok.0)
      (λ b y l. c.in_ok-posts.ensures.value b y l ∙ ap (λ (n : ℕ). blank_post n c.args.sizes.k) c.requires.dimension)
      counted c.requires.clock;
}
