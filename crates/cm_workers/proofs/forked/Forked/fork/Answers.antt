use Rattle.std.proofs.Common.{◌∙◌, ℕ, subst, sym, arith}
use Rattle.cm_workers.specs.Runs.{StandAt}
use Rattle.cm_workers.proofs.Forking.{parts_after, whole_after, joined_after, account_after}
use Rattle.cm_workers.proofs.forked.Forked.fork.Goals as goal

pub rounds-requires-clause-dimension : goal.rounds-requires-clause-dimension
rounds-requires-clause-dimension g c = omega (arith, c.requires.dimension, c.clock-clock.ensures.sizes.dimension)

pub run_blocks-requires-clause-dimension : goal.run_blocks-requires-clause-dimension
run_blocks-requires-clause-dimension g c = omega (arith, c.requires.dimension, c.clock-clock.ensures.sizes.dimension)

pub run_blocks-requires-clause-begun : goal.run_blocks-requires-clause-begun
run_blocks-requires-clause-begun g c = record {
  room = g.S.Sizes.cap;
  machine = c.args.machine.now.machine;
  at = subst (λ (n : ℕ). StandAt n c.args.sizes.k g.S.Sizes.cap c.args.machine.now.machine c.args.acts.now 0
      c.in_ok-all.all.blocks.items c.in_ok-all.all.posts.items)
      (sym c.requires.dimension) (c.in_ok-all.ensures.value c.args.acts.now (sym c.requires.cycles));
}

pub join-requires : goal.join-requires
join-requires g c = record {
  whole = whole_after g.S.Sizes.n g.S.Sizes.cap c.args.sizes.k c.args.machine.now.machine c.args.acts.now _
      (omega (arith, c.requires.within)) c.clock-clock.ensures.whole
      (parts_after g.S.Sizes.n g.S.Sizes.cap c.args.sizes.dims c.args.sizes.k c.args.machine.now.machine c.args.acts.now
      c.in_ok-after.after.blocks.items
      c.requires.dimension c.clock-clock.ensures.whole
      (c.in_ok-after.ensures.value g.S.Sizes.cap c.args.machine.now.machine
      (subst (λ (n : ℕ). StandAt n c.args.sizes.k g.S.Sizes.cap c.args.machine.now.machine c.args.acts.now 0
      c.in_ok-all.all.blocks.items c.in_ok-all.all.posts.items)
      (sym c.requires.dimension) (c.in_ok-all.ensures.value c.args.acts.now (sym c.requires.cycles)))));
}

pub returns : goal.returns
returns g c =
    let is = c.join.ensures.value ∙ joined_after g.S.Sizes.n g.S.Sizes.cap c.args.sizes.k c.args.machine.now.machine
    c.args.acts.now _ (omega (arith, c.requires.within)) c.clock-clock.ensures.whole
    (parts_after g.S.Sizes.n g.S.Sizes.cap c.args.sizes.dims c.args.sizes.k c.args.machine.now.machine c.args.acts.now
    c.in_ok-after.after.blocks.items
    c.requires.dimension c.clock-clock.ensures.whole
    (c.in_ok-after.ensures.value g.S.Sizes.cap c.args.machine.now.machine
    (subst (λ (n : ℕ). StandAt n c.args.sizes.k g.S.Sizes.cap c.args.machine.now.machine c.args.acts.now 0
    c.in_ok-all.all.blocks.items c.in_ok-all.all.posts.items)
    (sym c.requires.dimension) (c.in_ok-all.ensures.value c.args.acts.now (sym c.requires.cycles))))) in
    record {
      ok = is;
      account = account_after g.S.Sizes.n g.S.Sizes.cap c.args.machine.now.machine c.join.new.into.machine c.args.acts.now is;
      admitted = c.in_ok-admit_all.ensures.admitted;
      err = tt;
    }
