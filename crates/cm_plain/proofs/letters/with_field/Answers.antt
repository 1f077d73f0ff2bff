use Rattle.std.proofs.Common.{◌≡◌, ◌+◌, ◌++◌, take, drop, append_assoc, ◌∙◌, ap, arith}
use Rattle.cm_model.specs.Letters.{bits_of, with_field}
use Rattle.cm_plain.proofs.Filtered.{bits_grown}
use Rattle.cm_plain.proofs.letters.with_field.Goals as goal

pub loop-place-preserved : goal.loop-place-preserved
loop-place-preserved c =
    bits_grown _ c.loop-place.made.items c.push.new.self.items c.args.number c.loop-place.place c.bit_of.result
    c.loop-place.invariant c.in-Ok.ensures.items c.bit_of.ensures.value

pub returns : goal.returns
unfolding with_field
returns c =
    let bits = c.args.bits.now in
    let all : c.loop-place.place ≡ c.args.len = omega arith in
    let made_is : c.loop-place.made.items ≡ take c.args.at bits ++ bits_of c.args.len c.args.number =
    c.loop-place.invariant ∙ ap (λ n. take c.args.at bits ++ bits_of n c.args.number) all in
    let rest_is : c.in_ok-rest.rest.items ≡ drop (c.args.at + c.args.len) bits = c.in_ok-rest.ensures.value
    ∙ c.rest_of.ensures.value in
    record {
      value = c.in_ok-append.ensures.items ∙ (λ i. made_is i ++ rest_is i)
          ∙ append_assoc (take c.args.at bits) (bits_of c.args.len c.args.number) (drop (c.args.at + c.args.len) bits);
    }
