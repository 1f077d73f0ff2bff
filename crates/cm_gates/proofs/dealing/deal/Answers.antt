use Rattle.std.proofs.Common.{ℕ, ◌+◌, ◌%◌, ◌∷◌, ◌∙◌, [], ap, sym, subst}
use Rattle.std.proofs.lemmas.List.{length-append}
use Rattle.cm_gates.specs.Dealing.{HasPut}
use Rattle.cm_gates.proofs.Hands.{one_dealt}
use Rattle.cm_gates.proofs.dealing.deal.Goals as goal

pub loop-thing-preserved : goal.loop-thing-preserved
loop-thing-preserved g c = record {
  dealt = one_dealt c.args.count c.loop-thing.yielded c.in-Some.thing c.loop-thing.hands.items
      c.put.new.hands.items c.requires.some
      c.loop-thing.invariant.dealt
      (subst (λ (j : ℕ). HasPut (j % c.args.count) c.in-Some.thing c.loop-thing.hands.items c.put.new.hands.items)
      c.loop-thing.invariant.number
      c.in_ok-put.ensures.value);
  number = ap (λ (n : ℕ). n + 1) c.loop-thing.invariant.number
      ∙ sym (length-append c.loop-thing.yielded (c.in-Some.thing ∷ []));
}
