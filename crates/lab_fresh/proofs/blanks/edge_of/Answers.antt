use Rattle.std.proofs.Common.{◌≡◌, ◌∙◌, ◌*◌, ◌%◌, ◌^◌, ◌<◌, ℕ, min, bit_xor, sym, ap, subst, arith}
use Rattle.std.proofs.lemmas.Nat.{one_shl}
use Rattle.cm_bits.specs.Wire.{Wire, IsWire}
use Rattle.cm_model.specs.Wiring.{wire_of}
use Rattle.lab_fresh.proofs.WireEnds.{ends_are_wires}
use Rattle.lab_fresh.proofs.blanks.edge_of.Goals as goal

across : (c d k : ℕ) → d < 12 → k ≡ min c (bit_xor c (1 * 2 ^ d % 65536)) → k ≡ min c (bit_xor c (2 ^ d))
across c d k h e = e ∙ ap (λ (x : ℕ). min c (bit_xor c x)) (one_shl d 16 (omega (arith, h)))

pub unwrap-requires : goal.unwrap-requires
unwrap-requires c =
    let is : c.min.result ≡ min c.args.end.chip (bit_xor c.args.end.chip (2 ^ c.args.end.dim)) =
    across c.args.end.chip c.args.end.dim c.min.result c.requires.dimension c.min.ensures in
    c.new-edge.ensures.is_edge.1
    (subst (λ (x : ℕ). IsWire (record { chip = x; dim = c.args.end.dim })) (sym is)
    (ends_are_wires c.args.end.chip c.args.end.dim c.requires.chip c.requires.dimension))

pub returns : goal.returns
returns c =
    let is : c.min.result ≡ min c.args.end.chip (bit_xor c.args.end.chip (2 ^ c.args.end.dim)) =
    across c.args.end.chip c.args.end.dim c.min.result c.requires.dimension c.min.ensures in
    let edge : c.unwrap.result ≡ record { chip = c.min.result; dim = c.args.end.dim } =
    rw c.unwrap.ensures at c.new-edge.ensures.value in
    let wire : c.unwrap.result ≡ wire_of c.args.end.chip c.args.end.dim =
    edge ∙ (λ i. record { chip = is i; dim = c.args.end.dim }) in
    record {
      value = wire;
      within = omega (arith, ap (λ (w : Wire). w.chip) wire);
      dimension = ap (λ (w : Wire). w.dim) wire;
    }
