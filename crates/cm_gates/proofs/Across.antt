-- Things that change places with those whose numbers differ in one bit, and things that go round.
use Rattle.std.proofs.Common.{◌≡◌, ◌≢◌, ℕ, ◌+◌, ◌-◌, ◌%◌, ◌^◌, ◌<◌, ◌≤◌, ◌⊎◌, inl, inr, ⊎_elim, List}
use Rattle.std.proofs.Common.{length, get_or, sym, ap, ◌∙◌, refl, subst, arith}
use Rattle.std.specs.Prelude.{bit_xor}
use Rattle.std.specs.Int.Bits.{xor_self}
use Rattle.std.specs.List.{SwappedAt, RotatedRight}
use Rattle.std.proofs.lemmas.Nat.{xor_comm, xor_lt, pow_below, pow_pos}
use Rattle.std.proofs.lemmas.Bool.{cases_lt}
use Rattle.std.proofs.Math.Nat.{mod-eq_of_lt, add-mod_right}
use Rattle.cm_model.proofs.Flips.{xor_twice}
use Rattle.cm_gates.specs.Handing.{IsBitBelow}
use Rattle.cm_gates.proofs.Hands.{either_same, less_than}

-- those below a place, and those across from them, have changed places
pub record AreCrossed {X : Type 0} (one b : ℕ) (old new : List X) : Type 0 where
  pub len : length new ≡ length old
  pub crossed : (c : ℕ) (d : X) → c < length old → (c < b) ⊎ (bit_xor c one < b)
      → get_or new c d ≡ get_or old (bit_xor c one) d
  pub still : (c : ℕ) (d : X) → b ≤ c → b ≤ bit_xor c one → get_or new c d ≡ get_or old c d

pub none_crossed : {X : Type 0} (one : ℕ) (things : List X) → AreCrossed one 0 things things
none_crossed one things = record {
  len = refl;
  crossed = λ c d below some. ⊎_elim (λ (l : c < 0). absurd (omega (arith, l)))
      (λ (l : bit_xor c one < 0). absurd (omega (arith, l))) some;
  still = λ c d l m. refl;
}

-- the place across is another one below
pub across_below : (one many b : ℕ) → IsBitBelow one many → b < many → bit_xor b one < many
across_below one many b is below =
    subst (λ (m : ℕ). bit_xor b one < m) (sym is.count)
    (xor_lt is.power b one (subst (λ (m : ℕ). b < m) is.count below)
    (subst (λ (x : ℕ). x < 2 ^ is.power) (sym is.bit) (pow_below is.place is.power is.below)))

pub not_itself : (one many b : ℕ) → IsBitBelow one many → bit_xor b one ≢ b
not_itself one many b is same =
    let none : one ≡ 0 = sym (xor_twice one b) ∙ ap (λ (x : ℕ). bit_xor x b) (xor_comm one b ∙ same) ∙ xor_self b in
    let some = pow_pos is.place in absurd (omega (arith, none, some, is.bit))

-- across and back
back : (c b one : ℕ) → bit_xor c one ≡ b → bit_xor b one ≡ c
back c b one across = ap (λ (x : ℕ). bit_xor x one) (sym across) ∙ xor_twice c one

pub one_more_crosses : {X : Type 0} (one many b : ℕ) (old now new : List X) → IsBitBelow one many → length old ≡ many
    → b < many → b < bit_xor b one
    → AreCrossed one b old now → SwappedAt now new b (bit_xor b one) → length new ≡ length now
    → AreCrossed one (b + 1) old new
one_more_crosses {X} one many b old now new is len below up crossed swapped kept =
    let other : ℕ = bit_xor b one in record {
      len = kept ∙ crossed.len;
      crossed = λ c d l some. ⊎_elim
          (λ (here : c ≡ b).
          ap (λ (x : ℕ). get_or new x d) here ∙ swapped.0 d
          ∙ crossed.still other d (omega (arith, up)) (omega (arith, xor_twice b one))
          ∙ ap (λ (x : ℕ). get_or old (bit_xor x one) d) (sym here))
          (λ (not_here : c ≢ b). ⊎_elim
          (λ (there : c ≡ other).
          ap (λ (x : ℕ). get_or new x d) there ∙ swapped.1 d
          ∙ crossed.still b d (omega arith) (omega (arith, up))
          ∙ ap (λ (x : ℕ). get_or old x d) (sym (ap (λ (x : ℕ). bit_xor x one) there ∙ xor_twice b one)))
          (λ (not_there : c ≢ other).
          swapped.2 c d not_here not_there
          ∙ crossed.crossed c d l (⊎_elim
          (λ (m : c < b + 1). inl (less_than c b m not_here))
          (λ (m : bit_xor c one < b + 1). inr
          (less_than (bit_xor c one) b m (λ (x : bit_xor c one ≡ b). not_there (sym (back c b one x)))))
          some))
          (either_same c other))
          (either_same c b);
      still = λ c d l m.
          swapped.2 c d (λ (x : c ≡ b). absurd (omega (arith, x, l)))
          (λ (x : c ≡ other). absurd (omega (arith, ap (λ (y : ℕ). bit_xor y one) x ∙ xor_twice b one, m)))
          ∙ crossed.still c d (omega (arith, l)) (omega (arith, m));
    }

pub one_more_did : {X : Type 0} (one b : ℕ) (old now : List X) → bit_xor b one ≤ b → bit_xor b one ≢ b
    → AreCrossed one b old now → AreCrossed one (b + 1) old now
one_more_did {X} one b old now down other crossed = record {
  len = crossed.len;
  crossed = λ c d l some. crossed.crossed c d l (⊎_elim
      (λ (m : c < b + 1). ⊎_elim
      (λ (here : c ≡ b). inr
      (subst (λ (x : ℕ). bit_xor x one < b) (sym here) (less_than (bit_xor b one) b (omega (arith, down)) other)))
      (λ (not_here : c ≢ b). inl (less_than c b m not_here))
      (either_same c b))
      (λ (m : bit_xor c one < b + 1). ⊎_elim
      (λ (here : bit_xor c one ≡ b). inl
      (subst (λ (x : ℕ). x < b) (back c b one here) (less_than (bit_xor b one) b (omega (arith, down)) other)))
      (λ (not_here : bit_xor c one ≢ b). inr (less_than (bit_xor c one) b m not_here))
      (either_same (bit_xor c one) b))
      some);
  still = λ c d l m. crossed.still c d (omega (arith, l)) (omega (arith, m));
}

-- ---- things that go round

pub from_before : {X : Type 0} (many : ℕ) (old new : List X) → RotatedRight old new many 1 → (b : ℕ) (d : X) → b < many
    → get_or new b d ≡ get_or old ((b + many - 1) % many) d
from_before many old new turned b d below = ⊎_elim
    (λ (l : b < 1).
    turned.0 b d l
    ∙ ap (λ (x : ℕ). get_or old x d) (let at : many - 1 + b ≡ b + many - 1 = omega (arith, l, below) in
    at ∙ sym (mod-eq_of_lt (let lt : b + many - 1 < many = omega (arith, l, below) in lt))))
    (λ (l : 1 ≤ b).
    turned.1 b d l below
    ∙ ap (λ (x : ℕ). get_or old x d)
    (sym (ap (λ (x : ℕ). x % many) (let at : b + many - 1 ≡ b - 1 + many = omega (arith, l) in at)
    ∙ add-mod_right (b - 1) many ∙ mod-eq_of_lt (let lt : b - 1 < many = omega (arith, below) in lt))))
    (cases_lt b 1)
