use Rattle.std.proofs.Common.{◌∙◌}
use Rattle.lab_source.proofs.Laying.{too_many, few_enough}
use Rattle.lab_source.proofs.layout.push_times.Goals as goal

pub returns-then-not-is_within-clause-many : goal.returns-then-not-is_within-clause-many
returns-then-not-is_within-clause-many c = λ other.
    too_many c.args.order.now.items c.args.places.now c.args.count c.is_within.result c.len.result
    (c.len.ensures ∙ c.args.order.now.ok.0) c.is_within.ensures.value c.if-not-is_within.true

pub returns-clause-few : goal.returns-clause-few
returns-clause-few c =
    few_enough c.args.order.now.items c.args.places.now c.args.count c.is_within.result c.len.result
    (c.len.ensures ∙ c.args.order.now.ok.0) c.is_within.ensures.value c.if-not-is_within.false
