use Rattle.std.proofs.Common.{◌≡◌, refl, subst}
use Rattle.cm_model.specs.Wiring.{Routing}
use Rattle.cm_router.specs.Routes.{routing_of}
use Rattle.lab_load.specs.declared.figures.Period.{Period}
use Rattle.lab_load.specs.Counted.{chips_for}
use Rattle.lab_load.proofs.trials.Trial.measured_chips.Goals as goal

pub returns : goal.returns
returns c =
    let trial = c.args.self.now in
    let load = c.in_ok-load.load in
    let chips = c.in_ok-chips.chips.items in
    let by_period = subst (λ (p : Period). chips
    ≡ chips_for trial.room load (routing_of c.in_ok-routing.routing) p.skip p.cycles)
    c.period.ensures.value c.in_ok-chips.ensures.value in
    record {
      value = record {
        load = load;
        is = c.in_ok-load.ensures.value;
        rate_is = refl;
        are = subst (λ (r : Routing). chips ≡ chips_for trial.room load r trial.skip trial.cycles)
            c.in_ok-routing.ensures.value by_period;
      };
    }
