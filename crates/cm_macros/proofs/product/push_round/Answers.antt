use Rattle.cm_macros.proofs.Lists.{round_is}
use Rattle.cm_macros.proofs.product.push_round.Goals as goal

pub returns-clause-items : goal.returns-clause-items
returns-clause-items c =
    round_is c.args.d c.args.x c.args.y c.args.j c.len.result
    c.args.list.now.items c.push.new.list.items c.push_clear.new.list.items c.push_bits.new.list.items
    c.nano.result c.address-bit.result c.zero.result c.factor.result c.factor-2.result
    c.carry.result c.carry-2.result c.carry-3.result c.above.result c.lowest-addend.result
    c.push.ensures.items c.push_clear.ensures.items c.push_bits.ensures.items
    c.nano.ensures c.address-bit.ensures c.zero.ensures c.factor.ensures c.factor-2.ensures
    c.carry.ensures c.carry-2.ensures c.carry-3.ensures c.above.ensures c.lowest-addend.ensures c.len.ensures.value
