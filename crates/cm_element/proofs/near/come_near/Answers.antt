use Rattle.std.proofs.Common.{sym, ◌∙◌, arith}
use Rattle.cm_element.specs.Near.{AreNear}
use Rattle.cm_element.proofs.Nearing.{gone_back, come}
use Rattle.cm_element.proofs.near.come_near.Goals as goal

pub returns-clause-value : goal.returns-clause-value
returns-clause-value c =
    let near = c.requires.near in
    let far_new = c.lay.new.self in
    let near_new = c.lay-2.new.self in
    let is : AreNear far_new near_new c.min-first.result c.args.width c.args.chips = record {
      far_count = c.lay.ensures.value.chips ∙ near.far_count;
      near_count = c.lay-2.ensures.value.chips ∙ near.near_count;
      within = omega (arith, c.min-first.ensures, near.within);
      some = near.some;
    } in
    come far_new c.args.near.now near_new c.min-first.result c.args.width c.args.chips is c.lay-2.ensures.value
    ∙ sym (gone_back c.args.far.now c.args.near.now far_new c.args.place.now c.args.width c.args.chips near
    c.lay.ensures.value)
