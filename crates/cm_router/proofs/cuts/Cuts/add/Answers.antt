use Rattle.std.proofs.Common.{◌≡◌, ◌<◌, ◌^◌, ◌==◌, false, List, bit_xor, sym, ap, subst, ◌∙◌, cond, length, arith}
use Rattle.std.specs.List.{list_any}
use Rattle.cm_bits.specs.Wire.{Wire}
use Rattle.cm_model.specs.Wiring.{same_wire}
use Rattle.cm_model.proofs.Flips.{across_below}
use Rattle.cm_router.specs.Cuts.{CubeCuts, AreWires, wire_put, has_wire}
use Rattle.cm_router.proofs.Cutting.{asked, all_rows, is_new, AreWires-put, place_left, by_chip-put}
use Rattle.cm_router.proofs.Cutting.{by_dimension-put}
use Rattle.cm_router.proofs.cuts.Cuts.add.Goals as goal

pub returns-then-has : goal.returns-then-has
returns-then-has c =
    let there = asked c.args.self.now.wires c.args.edge c.chip-chip.result c.dim-dim.result c.has.result
    c.chip-chip.ensures.whole.lower c.chip-chip.ensures.value c.dim-dim.ensures.value c.has.ensures.value ∙ c.if-has.true in
    record {
      value = λ i. record {
        dims = c.args.self.now.dims;
        wires = cond (sym there i) c.args.self.now.wires (wire_put c.args.edge c.args.self.now.wires);
      };
    }

pub put-requires-clause-room : goal.put-requires-clause-room
put-requires-clause-room c =
    let one = is_new c.self.inside.dims c.self.inside.edges.items c.args.self.now c.args.edge c.chip-chip.result
    c.dim-dim.result c.has.result c.self.view_is c.chip-chip.ensures.whole c.requires.chip c.requires.dimension
    c.chip-chip.ensures.value c.dim-dim.ensures.value c.has.ensures.value c.if-has.false in
    omega (
      arith,
      place_left c.self.inside.dims c.self.inside.edges.items c.args.edge c.self.invariant.wires one,
      c.self.invariant.places,
    )

pub cut_end-requires-2-clause-chip : goal.cut_end-requires-2-clause-chip
cut_end-requires-2-clause-chip c =
    let there : c.other_end.result ≡ bit_xor c.args.edge.chip (2 ^ c.args.edge.dim) =
    c.other_end.ensures.value
    ∙ (λ j. bit_xor ((c.from-chip.ensures ∙ c.chip-chip.ensures.value) j) (2 ^ c.dim-dim.ensures.value j)) in
    let within : bit_xor c.args.edge.chip (2 ^ c.args.edge.dim) < 2 ^ c.args.self.now.dims =
    across_below c.args.self.now.dims c.args.edge.dim c.args.edge.chip c.requires.dimension c.requires.chip in
    let wide : length c.make_rows.new.rows.items ≡ 2 ^ c.args.self.now.dims =
    c.make_rows.ensures.count
    ∙ (all_rows c.self.inside.dims c.self.invariant.wires.dimensions
    ∙ ap (λ (cuts : CubeCuts). 2 ^ cuts.dims) c.self.view_is) in
    omega (arith, there, within, c.cut_end.ensures.count, wide)

pub invariant_of-self : goal.invariant_of-self
invariant_of-self c =
    let was = c.self.invariant in
    let dims = c.self.inside.dims in
    let wires = c.self.inside.edges.items in
    let edge = c.args.edge in
    let one = is_new dims wires c.args.self.now edge c.chip-chip.result c.dim-dim.result c.has.result c.self.view_is
    c.chip-chip.ensures.whole c.requires.chip c.requires.dimension c.chip-chip.ensures.value c.dim-dim.ensures.value
    c.has.ensures.value c.if-has.false in
    let put : wire_put edge wires ≡ c.put.new.edges.items = sym c.put.ensures.value in
    record {
      wires = subst (λ (ws : List Wire). AreWires (record { dims = dims; wires = ws })) put
          (AreWires-put dims wires edge was.wires one);
      places = omega (arith, was.places, c.put.ensures.capacity);
      count = omega (
        arith,
        c.cut_end-2.ensures.count,
        c.cut_end.ensures.count,
        c.make_rows.ensures.count,
        all_rows dims was.wires.dimensions,
      );
      chip_places = omega (
        arith,
        was.chip_places,
        c.make_rows.ensures.capacity,
        c.cut_end.ensures.capacity,
        c.cut_end-2.ensures.capacity,
      );
      by_chip = λ i d. by_chip-put c.make_rows.new.rows.items c.cut_end.new.rows.items c.cut_end-2.new.rows.items wires
          edge c.from-chip.result c.dim-dim.result c.other_end.result c.chip-chip.ensures.whole.lower
          (c.from-chip.ensures ∙ c.chip-chip.ensures.value) c.dim-dim.ensures.value c.other_end.ensures.value
          c.cut_end.ensures.value c.cut_end-2.ensures.value (λ e f. c.make_rows.ensures.value e f ∙ was.by_chip e f) i d
          ∙ ap (λ (ws : List Wire). has_wire ws i d) put;
      by_dimension = λ d. by_dimension-put c.self.inside.over wires edge c.dim-dim.result c.dim-dim.ensures.value
          (omega (arith, c.dim-dim.ensures.within)) was.by_dimension d
          ∙ ap (λ (ws : List Wire). list_any (λ w. w.dim == d) ws) put;
    }

pub returns : goal.returns
returns c =
    let now = c.args.self.now in
    let edge = c.args.edge in
    let new : list_any (same_wire edge) now.wires ≡ false =
    asked now.wires edge c.chip-chip.result c.dim-dim.result c.has.result c.chip-chip.ensures.whole.lower
    c.chip-chip.ensures.value c.dim-dim.ensures.value c.has.ensures.value ∙ c.if-has.false in
    let wires = c.put.ensures.value
    ∙ (ap (λ (cuts : CubeCuts). wire_put edge cuts.wires) c.self.view_is
    ∙ (λ i. cond (sym new i) now.wires (wire_put edge now.wires))) in
    record { value = λ i. record { dims = (c.self.view_is i).dims; wires = wires i } }
