use Rattle.std.proofs.Common.{◌≡◌, ◌++◌, ◌∷◌, [], List, sym, subst}
use Rattle.std.specs.Prelude.{OnOk}
use Rattle.cm_subcube.specs.declared.round.Round.{Round}
use Rattle.cm_model.specs.declared.act.Act.{Act}
use Rattle.cm_subcube.specs.Rounds.{rounds_from}
use Rattle.cm_subcube.proofs.Rounding.{rounds_of_cycle}
use Rattle.cm_subcube.proofs.round.add_rounds.Goals as goal

pub returns-in-Cycle : goal.returns-in-Cycle
returns-in-Cycle c =
    let old = c.args.rounds.now.items in
    record {
      ok = subst (λ (act : Act). OnOk c.add_crossings.result
          (c.add_crossings.new.rounds.items ≡ old ++ rounds_from c.args.dims c.args.k c.args.at (act ∷ [])))
          (sym c.in-Cycle.is)
          (subst (λ (more : List Round). OnOk c.add_crossings.result (c.add_crossings.new.rounds.items ≡ old ++ more))
          (rounds_of_cycle c.args.dims c.args.k c.args.at c.requires.within) c.add_crossings.ensures.ok);
    }
