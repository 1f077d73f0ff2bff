use Rattle.std.proofs.Common.{IfOk, subst}
use Rattle.std.proofs.lemmas.Result.{IfOk-weaker}
use Rattle.cm_model.specs.Wiring.{Routing}
use Rattle.cm_router.specs.Routes.{routing_of}
use Rattle.lab_load.specs.declared.figures.Figures.{Figures}
use Rattle.lab_load.specs.declared.figures.Period.{Period}
use Rattle.lab_load.specs.declared.offers.Load.{Load}
use Rattle.lab_load.specs.declared.trials.Trial.{Trial}
use Rattle.lab_load.specs.Loaded.{loaded_for}
use Rattle.lab_load.specs.Figures.{AreFigures}
use Rattle.lab_load.specs.Counted.{counts_for}
use Rattle.lab_load.specs.Trials.{is_counted, trial_routing, AreFiguresOf}
use Rattle.lab_load.proofs.trials.Trial.measured.Goals as goal

-- the numbers of this load in these petit cycles, on a machine that routes so
abbrev AreBy : Trial → Load → Period → Routing → Figures → Type 0
AreBy trial load period routing figures =
    AreFigures load period.skip period.cycles (loaded_for trial.room load routing period.skip period.cycles)
    (counts_for period.counting trial.room load routing period.skip period.cycles) figures

pub returns : goal.returns
returns c =
    let trial = c.args.self.now in
    let load = c.in_ok-load.load in
    let told : Period = record {
      skip = trial.skip;
      cycles = trial.cycles;
      counting = is_counted trial.table;
    } in
    record {
      value = IfOk-weaker c.measure.result (AreBy trial load told (trial_routing trial c.args.cuts.now))
          (AreFiguresOf trial c.args.targets.now c.args.cuts.now c.args.rate)
          (λ figures are. record { load = load; is = c.in_ok-load.ensures.value; are = are })
          (subst (λ (routing : Routing). IfOk c.measure.result (AreBy trial load told routing))
          c.in_ok-routing.ensures.value
          (subst (λ (period : Period). IfOk c.measure.result
          (AreBy trial load period (routing_of c.in_ok-routing.routing))) c.period.ensures.value
          c.measure.ensures.value));
    }
