use Rattle.std.proofs.Common.{rules, ◌+◌, List, arith, sym, subst}
use Rattle.cm_gates.proofs.Hands.{AreLeft, one_taken}
use Rattle.cm_gates.proofs.dealing.collect.Goals as goal

pub push_reserved-requires : goal.push_reserved-requires
push_reserved-requires g c = let inv = c.loop-i.invariant in
    omega (arith, inv.room, inv.left.long, c.loop-i-test.true, c.loop-i.things.ok.0)

pub loop-i-preserved : goal.loop-i-preserved
loop-i-preserved g c = record {
  left = subst (λ (ts : List g.row.T.Denot). AreLeft c.len-count.result c.args.many (c.loop-i.i + 1)
      c.args.hands.items c.take.new.hands.items ts) (sym c.push_reserved.ensures.items)
      (one_taken c.len-count.result c.args.many c.loop-i.i c.args.hands.items c.loop-i.hands.items
      c.take.new.hands.items c.loop-i.things.items
      c.take.result (search rules) c.loop-i-test.true c.loop-i.invariant.left c.take.ensures.value);
  room = search rules;
}
