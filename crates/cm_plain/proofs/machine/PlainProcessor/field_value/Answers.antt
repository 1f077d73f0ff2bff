use Rattle.std.proofs.Common.{◌^◌, ◌≤◌, ◌∙◌, ap, length, take, drop, arith}
use Rattle.std.proofs.Math.Nat.{pow-le-pow_right}
use Rattle.std.proofs.Common.{lit<}
use Rattle.std.proofs.lemmas.List.{length-take}
use Rattle.cm_model.specs.Processor.{Processor, value, field_value}
use Rattle.cm_plain.proofs.machine.PlainProcessor.field_value.Goals as goal

pub returns-clause-value : goal.returns-clause-value
unfolding field_value
returns-clause-value c =
    let memory = c.args.self.now.memory in
    c.value_of.ensures.value
    ∙ ap value (c.first_bits.ensures.value
    ∙ ap (take c.args.len) (c.rest_of.ensures.value
    ∙ ap (drop c.args.at) (c.deref.ensures.value
    ∙ ap (λ (processor : Processor). processor.memory) c.self.view_is)))

pub returns-clause-within : goal.returns-clause-within
returns-clause-within c =
    let few : length c.first_bits.result.now ≤ c.args.len =
    omega (arith, ap length c.first_bits.ensures.value, length-take c.args.len c.rest_of.result.now) in
    let most : 2 ^ length c.first_bits.result.now ≤ 2 ^ c.args.len = pow-le-pow_right (lit< tt) few in
    omega arith
