use Rattle.std.proofs.Common.{◌-◌, ◌/◌, ◌<◌, ◌≤◌, List, ap, sym, ◌∙◌, subst, arith}
use Rattle.cm_blocks.specs.Parts.{Part}
use Rattle.cm_array.specs.Cuts.{joined, AreWhole}
use Rattle.cm_subcube.specs.declared.block.SplitFault.TheVariants.{Split}
use Rattle.cm_subcube.proofs.Exchanging.{still_no_error}
use Rattle.cm_subcube.proofs.Joining.{joined-blocks, AreWhole-blocks}
use Rattle.cm_subcube.proofs.copying.copy_by_blocks.Goals as goal

pub join-requires : goal.join-requires
join-requires g c =
    let within : c.args.k ≤ g.S.Sizes.n = grind (arith, c.in_ok-blocks.ensures.split.1) in record {
      whole = subst (λ (parts : List Part). AreWhole g.S.Sizes.n g.S.Sizes.cap parts) (sym c.in_ok-blocks.ensures.value)
          (AreWhole-blocks g.S.Sizes.n g.S.Sizes.cap c.args.k c.args.from.now.machine within c.clock-clock.ensures.whole);
    }

pub returns : goal.returns
returns g c =
    let within : c.args.k ≤ g.S.Sizes.n = grind (arith, c.in_ok-blocks.ensures.split.1) in
    record {
      ok = c.join.ensures.value ∙ ap joined c.in_ok-blocks.ensures.value
          ∙ joined-blocks g.S.Sizes.n g.S.Sizes.cap c.args.k c.args.from.now.machine within c.clock-clock.ensures.whole;
      err = tt;
      split = still_no_error c.in_ok-blocks.blocks tt Split (g.S.Sizes.n - g.S.Sizes.n / 2 < c.args.k)
          c.in_ok-blocks.ensures.split;
    }
