use Rattle.std.proofs.Common.{ap, ◌∙◌}
use Rattle.lab_study.specs.Traces.{Traces, traces_after}
use Rattle.lab_study.proofs.known.Known.opening.Goals as goal

pub returns : goal.returns
returns c =
    let machine = c.args.machine.now.machine in
    let traces = c.in_ok-ways.ensures.value
    ∙ ap (λ (known : Traces). traces_after c.args.machine.now.n known machine) c.none-nothing.ensures.value in
    record {
      value = λ j. record { machine = machine; told = c.in_ok-told.ensures.value j; traces = traces j };
    }
