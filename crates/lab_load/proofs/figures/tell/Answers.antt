use Rattle.std.proofs.Common.{ℕ, List, [], replicate, ap, ◌∙◌}
use Rattle.cm_model.specs.declared.message.Event.{Event}
use Rattle.cm_model.specs.Each.{tabulate}
use Rattle.cm_petit.specs.Routers.{events_of}
use Rattle.lab_load.specs.Asking.{no_source}
use Rattle.lab_load.proofs.figures.tell.Goals as goal

pub begin-requires-clause-logs : goal.begin-requires-clause-logs
begin-requires-clause-logs c =
    ap events_of c.deref_mut.ensures.value
    ∙ (c.in_ok-logs.ensures.value ∙ ap (λ (k : ℕ). tabulate {X = List Event} 0 k (λ x. [])) c.from.ensures)

pub begin-requires-clause-sources : goal.begin-requires-clause-sources
begin-requires-clause-sources c =
    c.deref_mut-2.ensures.value
    ∙ (c.in_ok-sources.ensures.value ∙ ap (λ (k : ℕ). replicate k no_source) c.places.ensures.value)
