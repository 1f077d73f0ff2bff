-- How a machine routes, as a dump asks for it.
use Rattle.std.proofs.Common.{◌≡◌, ◌∙◌, ◌<◌, ◌≤◌, ◌*◌, ◌/◌, ◌^◌, ℕ, List, length}
use Rattle.std.proofs.Common.{arith, lit<}
use Rattle.std.proofs.Math.Nat.{pow-le-pow_right, mul-le-mul}
use Rattle.cm_bits.specs.Wire.{Wire}
use Rattle.cm_model.specs.declared.rule.Rule.{Rule}
use Rattle.cm_model.specs.Wiring.{Routing, IsRouting}
use Rattle.cm_model.specs.Laws.{CutsAreFew}
use Rattle.cm_image_format.specs.Cuts.{version_by, version_of}
use Rattle.cm_image_dump.proofs.Lengths.{few_cuts}

few_of : (n : ℕ) (routing : Routing) (cuts : List Wire) → CutsAreFew → IsRouting n routing → cuts ≡ routing.cuts
    → length cuts ≤ n * 2 ^ n / 2
few_of n routing cuts few is same = rw same (few n routing is)

-- so few that a number of two bytes counts them
pub few_routed : (n : ℕ) (routing : Routing) (cuts : List Wire) → n ≤ 12 → CutsAreFew → IsRouting n routing
    → cuts ≡ routing.cuts → length cuts < 65536
few_routed n routing cuts most few is same = few_cuts n (length cuts) most (few_of n routing cuts few is same)

few_bytes : (n k : ℕ) → n ≤ 12 → k ≤ n * 2 ^ n / 2 → k ≤ 24576
few_bytes n k h most =
    let chips : 2 ^ n ≤ 2 ^ 12 = pow-le-pow_right (lit< tt) h in
    let wires : n * 2 ^ n ≤ 12 * 2 ^ 12 = mul-le-mul h chips in
    omega arith

-- so few that they are listed in three quarters of what waits
pub few_listed : (n : ℕ) (routing : Routing) (cuts : List Wire) → n ≤ 12 → CutsAreFew → IsRouting n routing
    → cuts ≡ routing.cuts → length cuts ≤ 24576
few_listed n routing cuts most few is same = few_bytes n (length cuts) most (few_of n routing cuts few is same)

-- the version that was chosen is that of the machine's routing
pub version_told : (routing : Routing) (rule : Rule) (cuts : List Wire) (version : ℕ) → version ≡ version_by rule cuts
    → rule ≡ routing.rule → cuts ≡ routing.cuts → version ≡ version_of routing
version_told routing rule cuts version is same also = is ∙ (λ i. version_by (same i) (also i))
