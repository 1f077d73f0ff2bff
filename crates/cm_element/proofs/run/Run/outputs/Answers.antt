use Rattle.std.proofs.Common.{length, get_or, ap, ◌∙◌, arith}
use Rattle.std.proofs.lemmas.List.{with_items_is}
use Rattle.cm_bits.specs.Bit.{bit}
use Rattle.cm_element.specs.Steps.{AreLookedUp, AreHolding}
use Rattle.cm_element.proofs.Columns.{length-chips_of}
use Rattle.cm_element.proofs.run.Run.outputs.Goals as goal

pub look_up_row-requires-clause-found : goal.look_up_row-requires-clause-found
look_up_row-requires-clause-found c =
    let count = rw (
      ← c.self.view_is,
      length-chips_of c.self.inside.memory c.self.inside.flags.items c.self.inside.stride c.self.inside.chips,
    ) at c.requires.room.mem in
    ap length c.deref_mut.ensures.value ∙ count

pub look_up_row-requires-2-clause-found : goal.look_up_row-requires-2-clause-found
look_up_row-requires-2-clause-found c =
    let count = rw (
      ← c.self.view_is,
      length-chips_of c.self.inside.memory c.self.inside.flags.items c.self.inside.stride c.self.inside.chips,
    ) at c.requires.room.flag in
    ap length c.deref_mut-2.ensures.value ∙ count

pub hold_row-requires-clause-found : goal.hold_row-requires-clause-found
hold_row-requires-clause-found c =
    let count = rw (
      ← c.self.view_is,
      length-chips_of c.self.inside.memory c.self.inside.flags.items c.self.inside.stride c.self.inside.chips,
    ) at c.requires.room.holds in
    ap length c.deref_mut-3.ensures.value ∙ count

pub returns-clause-value : goal.returns-clause-value
returns-clause-value c =
    let old = c.args.outputs.now in
    let mem = with_items_is old.mem c.look_up_row.new.found
    (omega (arith, c.look_up_row.auto.found, c.deref_mut.ensures.len)) in
    let flag = with_items_is old.flag c.look_up_row-2.new.found
    (omega (arith, c.look_up_row-2.auto.found, c.deref_mut-2.ensures.len)) in
    let holds = with_items_is old.holds c.hold_row.new.found
    (omega (arith, c.hold_row.auto.found, c.deref_mut-3.ensures.len)) in
    let mem_is : AreLookedUp c.args.nano.now.mem_table c.args.nano.now c.args.self.now c.look_up_row.new.found =
    rw (← c.self.view_is, ← c.deref.ensures.value) c.look_up_row.ensures.value in
    let flag_is : AreLookedUp c.args.nano.now.flag_table c.args.nano.now c.args.self.now c.look_up_row-2.new.found =
    rw (← c.self.view_is, ← c.deref-2.ensures.value) c.look_up_row-2.ensures.value in
    let holds_is : AreHolding c.args.nano.now c.args.self.now c.hold_row.new.found =
    rw (← c.self.view_is, ← c.deref-3.ensures.value) c.hold_row.ensures.value in
    record {
      each = λ k h. record {
        mem = λ p below. ap (λ ws. bit (get_or ws k 0) p) mem ∙ mem_is.each k h p below;
        flag = λ p below. ap (λ ws. bit (get_or ws k 0) p) flag ∙ flag_is.each k h p below;
        holds = λ p below. ap (λ ws. bit (get_or ws k 0) p) holds ∙ holds_is.each k h p below;
      };
    }
