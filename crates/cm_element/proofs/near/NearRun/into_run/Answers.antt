use Rattle.std.proofs.Common.{sym, ◌∙◌}
use Rattle.cm_element.proofs.Nearing.{gone_back}
use Rattle.cm_element.proofs.near.NearRun.into_run.Goals as goal

pub returns : goal.returns
returns c =
    let run = c.self.inside in
    record {
      value = sym (gone_back run.far run.near c.lay.new.self run.first run.width run.chips c.self.invariant
          c.lay.ensures.value) ∙ c.self.view_is;
    }
