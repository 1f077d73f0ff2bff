-- The longest image of a machine of the programs' own.
use Rattle.std.proofs.Common.{◌≡◌, ℕ, ◌+◌, ◌*◌, ◌^◌, ◌≤◌, true, arith, lit<}
use Rattle.std.proofs.lemmas.Bool.Decides.{nat_tests}
use Rattle.std.proofs.Math.Nat.{pow-le-pow_right, mul-le-mul}
use Rattle.cm_image_dump.specs.Longest.{TextsAreShort}
use Rattle.cm_sizes.specs.Sizes.{is_own_room}
use Rattle.cm_sizes.specs.Laws.{ImagesAreShortEnough}

own_small : (cap : ℕ) → is_own_room cap ≡ true → cap ≤ 7
own_small cap own = grind (arith, nat_tests)

pub short_enough : TextsAreShort → ImagesAreShortEnough
short_enough short n cap machine has own =
    let small = own_small cap own in
    let chips : 2 ^ n ≤ 2 ^ 12 = pow-le-pow_right (lit< tt) has.dimension in
    let wires : n * 2 ^ n ≤ 12 * 2 ^ 12 = mul-le-mul has.dimension chips in
    let each : 35 + 4096 * 4 + cap * 18 ≤ 16545 = omega (arith, small) in
    let all : 2 ^ n * (35 + 4096 * 4 + cap * 18) ≤ 2 ^ 12 * 16545 = mul-le-mul chips each in
    omega (arith, short n cap machine has, wires, all)
