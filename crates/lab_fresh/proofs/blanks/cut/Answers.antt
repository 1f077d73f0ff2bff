use Rattle.std.proofs.Common.{◌≡◌, ◌∙◌, ◌+◌, ◌<◌, ◌≤◌, ◌^◌, ℕ, suc, List, get_or, take, sym, ap, arith}
use Rattle.std.proofs.Math.Nat.{pow-le-pow_right}
use Rattle.std.proofs.Common.{lit<}
use Rattle.cm_bits.specs.Wire.{Wire}
use Rattle.cm_router.specs.Cuts.{CubeCuts, with_wire}
use Rattle.lab_fresh.specs.declared.blanks.WireEnd.{WireEnd}
use Rattle.lab_fresh.specs.Fresh.{wires_with}
use Rattle.lab_fresh.proofs.WireEnds.{end_parts, wires_more}
use Rattle.lab_fresh.proofs.blanks.cut.Goals as goal

abbrev none : WireEnd
none = record { chip = 0; dim = 0 }

chips : (n c : ℕ) → n ≤ 12 → c < 2 ^ n → c < 4096
chips n c h l = let most : 2 ^ n ≤ 2 ^ 12 = pow-le-pow_right (lit< tt) h in omega (arith, most, l)

pub edge_of-requires : goal.edge_of-requires
edge_of-requires c =
    let parts = end_parts c.args.cuts.now.dims (get_or c.args.ends.now c.loop-end.end-index none)
    (c.requires.ends c.loop-end.end-index none c.loop-end-test.true) in
    record {
      chip = chips c.args.cuts.now.dims (get_or c.args.ends.now c.loop-end.end-index none).chip c.requires.dimension
          parts.0;
      dimension = omega (arith, parts.1, c.requires.dimension);
    }

pub add-requires : goal.add-requires
add-requires c =
    let parts = end_parts c.args.cuts.now.dims (get_or c.args.ends.now c.loop-end.end-index none)
    (c.requires.ends c.loop-end.end-index none c.loop-end-test.true) in
    let same : c.loop-end.cuts.dims ≡ c.args.cuts.now.dims = ap (λ (k : CubeCuts). k.dims) c.loop-end.invariant in
    let all : 2 ^ c.loop-end.cuts.dims ≡ 2 ^ c.args.cuts.now.dims = ap (λ (k : ℕ). 2 ^ k) same in
    record {
      chip = omega (arith, parts.0, all, c.edge_of.ensures.within);
      dimension = omega (arith, parts.1, same, c.edge_of.ensures.dimension);
    }

pub loop-end-preserved : goal.loop-end-preserved
loop-end-preserved c =
    let i : ℕ = c.loop-end.end-index in
    let ends : List WireEnd = c.args.ends.now in
    let before : List Wire = wires_with c.args.cuts.now.wires (take i ends) in
    let next : suc i ≡ i + 1 = omega arith in
    let wires : with_wire c.edge_of.result before ≡ wires_with c.args.cuts.now.wires (take (i + 1) ends) =
    ap (λ (w : Wire). with_wire w before) c.edge_of.ensures.value
    ∙ (sym (wires_more ends c.args.cuts.now.wires i none c.loop-end-test.true)
    ∙ ap (λ (k : ℕ). wires_with c.args.cuts.now.wires (take k ends)) next) in
    c.add.ensures.value
    ∙ (ap (λ (k : CubeCuts). record k { wires = with_wire c.edge_of.result k.wires }) c.loop-end.invariant
    ∙ (λ j. record { dims = c.args.cuts.now.dims; wires = wires j }))
