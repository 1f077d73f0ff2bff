-- An axis has at most twelve ticks.
use Rattle.std.proofs.Common.{◌≡◌, ◌⊎◌, inl, inr, ⊎_elim, ℕ, zero, suc, ◌-◌, ◌*◌, ◌/◌, ◌%◌, ◌^◌, ◌<◌, ◌≤◌}
use Rattle.std.proofs.Common.{Bool, true, false, max, refl, arith}
use Rattle.std.specs.Prelude.{if◌then◌else◌, nat_lt, nat_le}
use Rattle.std.proofs.Math.Nat.{mod-lt, pow-suc}
use Rattle.std.proofs.lemmas.Bool.Decides.{nat_tests}
use Rattle.lab_plot.specs.Axes.{axis_of, power_in, round_step, tick_step, wider}
use Rattle.lab_plot.proofs.Standing.{covers}

-- a power of ten, which has so many zeros or is the greatest not above a number
record IsPower (range zeros power : ℕ) : Type 0 where
  some : 0 < power
  tens : (power ≡ 1) ⊎ (power % 10 ≡ 0)
  reach : (10 ^ zeros ≤ power) ⊎ (range < 10 * power)

wider_is : (range zeros power : ℕ) → IsPower range zeros power → IsPower range (suc zeros) (wider range power)
wider_is range zeros power is = by (nat_le power (range / 10)) refl where
  by : (b : Bool) → nat_le power (range / 10) ≡ b → IsPower range (suc zeros) (if b then 10 * power else power)
  by true e =
      let within : power ≤ range / 10 = grind (arith, nat_tests, e) in
      let some = is.some in
      record {
        some = omega (arith, some);
        tens = inr (omega arith);
        reach = ⊎_elim
            (λ (p : 10 ^ zeros ≤ power). inl (omega (arith, p, pow-suc 10 zeros)))
            (λ (f : range < 10 * power). absurd (omega (arith, f, within)))
            is.reach;
      }
  by false e =
      let above : range / 10 < power = grind (arith, nat_tests, e) in
      record { some = is.some; tens = is.tens; reach = inr (omega (arith, above)) }

power_is : (range zeros : ℕ) → IsPower range zeros (power_in range zeros)
unfolding power_in
power_is range zero = record { some = omega arith; tens = inl refl; reach = inl (omega arith) }
power_is range (suc zeros) = wider_is range zeros (power_in range zeros) (power_is range zeros)

-- less than ten steps go into the range
rounded : (unit range power : ℕ) → 0 < unit → (power ≡ 1) ⊎ (power % 10 ≡ 0) → range < 10 * power
    → range < 10 * max unit (round_step range power)
rounded unit range power some tens near = by (nat_lt (range / 2) power) refl (nat_lt (range / 5) power) refl where
  by : (b : Bool) → nat_lt (range / 2) power ≡ b → (d : Bool) → nat_lt (range / 5) power ≡ d
      → range < 10 * max unit (if b then power / 5 else (if d then power / 2 else power))
  by true e d f =
      let low : range / 2 < power = grind (arith, nat_tests, e) in
      ⊎_elim
      (λ (one : power ≡ 1). omega (arith, one, low, some))
      (λ (ten : power % 10 ≡ 0). omega (arith, ten, low))
      tens
  by false e true f =
      let low : range / 5 < power = grind (arith, nat_tests, f) in
      ⊎_elim
      (λ (one : power ≡ 1). omega (arith, one, low, some))
      (λ (ten : power % 10 ≡ 0). omega (arith, ten, low))
      tens
  by false e false f = omega (arith, near)

step_reaches : (unit range : ℕ) → 0 < unit → range < 10 ^ 20 → range < 10 * tick_step unit range
step_reaches unit range some few =
    let is = power_is range 19 in
    rounded unit range (power_in range 19) some is.tens
    (⊎_elim
    (λ (p : 10 ^ 19 ≤ power_in range 19). omega (arith, p, few, pow-suc 10 19))
    (λ (f : range < 10 * power_in range 19). f)
    is.reach)

pub twelve : (unit least most : ℕ) → 0 < unit → least ≤ most → most < 2 ^ 64
    → (axis_of unit least most).span < 12 * (axis_of unit least most).step
unfolding axis_of
twelve unit least most some order few =
    let wide : 0 < tick_step unit (most - least) = omega arith in
    let reach = step_reaches unit (most - least) some (omega (arith, few)) in
    let over = covers (tick_step unit (most - least)) (most - (least - least % tick_step unit (most - least))) wide in
    omega (arith, reach, over.near, mod-lt least wide, order)
