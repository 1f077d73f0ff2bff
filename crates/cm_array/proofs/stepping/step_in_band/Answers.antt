use Rattle.std.proofs.Common.{sym, ◌∙◌}
use Rattle.std.proofs.lemmas.Bool.{eqb-false}
use Rattle.cm_array.proofs.Banding.{stepped_apart}
use Rattle.cm_array.proofs.stepping.step_in_band.Goals as goal

pub returns-else-eq : goal.returns-else-eq
returns-else-eq c = record {
  value = stepped_apart c.args.dims c.args.nano.now c.args.run.now c.step.new.self c.args.edge.now
      (eqb-false c.args.nano.now.write 10 (sym c.eq.ensures ∙ c.if-eq.false)) c.step.ensures.value;
}
