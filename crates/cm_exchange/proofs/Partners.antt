-- Each block gets from one block over a lane of each kind, and sends to one.
use Rattle.std.proofs.Common.{◌≡◌, ℕ, zero, suc, ◌+◌, ◌-◌, ◌%◌, ◌^◌, ◌<◌, ◌≤◌, ◌⊎◌, inl, inr, ⊎_elim, sym, ap, ◌∙◌}
use Rattle.std.proofs.Common.{arith, mod-lt}
use Rattle.std.proofs.lemmas.Bool.{cases_lt}
use Rattle.std.proofs.lemmas.Nat.{pow_pos}
use Rattle.std.proofs.Math.Nat.{mod-eq_of_lt, add-mod_right, mod_self}
use Rattle.cm_model.proofs.Flips.{xor_twice, across_below}
use Rattle.cm_exchange.specs.Lanes.{kind_count}
use Rattle.cm_exchange.specs.Laws.{ArePartners}

-- the next of so many in a ring, and the one before
next_one : (many b : ℕ) → b < many → ((b + 1 < many) × ((b + 1) % many ≡ b + 1))
    ⊎ ((b + 1 ≡ many) × ((b + 1) % many ≡ 0))
next_one many b below = ⊎_elim
    (λ (l : b + 1 < many). inl (l, mod-eq_of_lt l))
    (λ (l : many ≤ b + 1).
    let last : b + 1 ≡ many = omega (arith, l, below) in
    inr (last, ap (λ (x : ℕ). x % many) last ∙ mod_self many))
    (cases_lt (b + 1) many)

one_before : (many b : ℕ) → b < many
    → ((b ≡ 0) × ((b + many - 1) % many ≡ many - 1)) ⊎ ((1 ≤ b) × ((b + many - 1) % many ≡ b - 1))
one_before many b below = ⊎_elim
    (λ (l : b < 1).
    let first : b ≡ 0 = omega (arith, l) in
    let same : b + many - 1 ≡ many - 1 = omega (arith, l) in
    let lt : many - 1 < many = omega (arith, below) in
    inl (first, ap (λ (x : ℕ). x % many) same ∙ mod-eq_of_lt lt))
    (λ (l : 1 ≤ b).
    let same : b + many - 1 ≡ b - 1 + many = omega (arith, l) in
    let lt : b - 1 < many = omega (arith, below) in
    inr (l, ap (λ (x : ℕ). x % many) same ∙ add-mod_right (b - 1) many ∙ mod-eq_of_lt lt))
    (cases_lt b 1)

back_and_on : (many b : ℕ) → b < many → ((b + many - 1) % many + 1) % many ≡ b
back_and_on many b below = ⊎_elim
    (λ (h : (b ≡ 0) × ((b + many - 1) % many ≡ many - 1)).
    let last : (b + many - 1) % many + 1 ≡ many = omega (arith, h.1, below) in
    ap (λ (x : ℕ). x % many) last ∙ mod_self many ∙ sym h.0)
    (λ (h : (1 ≤ b) × ((b + many - 1) % many ≡ b - 1)).
    let same : (b + many - 1) % many + 1 ≡ b = omega (arith, h.1, h.0) in
    ap (λ (x : ℕ). x % many) same ∙ mod-eq_of_lt below)
    (one_before many b below)

on_and_back : (many b : ℕ) → b < many → ((b + 1) % many + many - 1) % many ≡ b
on_and_back many b below = ⊎_elim
    (λ (h : (b + 1 < many) × ((b + 1) % many ≡ b + 1)).
    let same : (b + 1) % many + many - 1 ≡ b + many = omega (arith, h.1) in
    ap (λ (x : ℕ). x % many) same ∙ add-mod_right b many ∙ mod-eq_of_lt below)
    (λ (h : (b + 1 ≡ many) × ((b + 1) % many ≡ 0)).
    let same : (b + 1) % many + many - 1 ≡ b = omega (arith, h.1, h.0) in
    ap (λ (x : ℕ). x % many) same ∙ mod-eq_of_lt below)
    (next_one many b below)

pub lanes_have_two_ends : (k kind : ℕ) → kind < kind_count k → ArePartners k kind
lanes_have_two_ends k zero l = record {
  gives = λ b below. mod-lt (b + 1) (pow_pos k);
  gets = λ b below. mod-lt (b + 2 ^ k - 1) (pow_pos k);
  back = λ b below. on_and_back (2 ^ k) b below;
  on = λ b below. back_and_on (2 ^ k) b below;
}
lanes_have_two_ends k (suc zero) l = record {
  gives = λ b below. mod-lt (b + 2 ^ k - 1) (pow_pos k);
  gets = λ b below. mod-lt (b + 1) (pow_pos k);
  back = λ b below. back_and_on (2 ^ k) b below;
  on = λ b below. on_and_back (2 ^ k) b below;
}
lanes_have_two_ends k (suc (suc i)) l = record {
  gives = λ b below. across_below k i b (omega (arith, l)) below;
  gets = λ b below. across_below k i b (omega (arith, l)) below;
  back = λ b below. xor_twice b (2 ^ i);
  on = λ b below. xor_twice b (2 ^ i);
}
