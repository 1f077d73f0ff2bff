-- Each of a chip's sixteen bits stays on the chip or leaves it, and goes to one place only.
use Rattle.std.proofs.Common.{◌≡◌, ℕ, ◌+◌, ◌-◌, ◌/◌, ◌%◌, ◌<◌, ◌⊎◌, ◌≢◌, inl, inr, Bool, true, false, Option, Some}
use Rattle.std.proofs.Common.{None, if◌then◌else◌, refl, ap, ◌∙◌, arith, ne_eqb}
use Rattle.std.proofs.lemmas.Bool.{eqb-false, cases_eq}
use Rattle.cm_bits.specs.declared.plane.Dir.{Dir}
use Rattle.cm_bits.specs.declared.plane.Dir.TheVariants.{North, East, West, South}
use Rattle.cm_news.specs.Moves.{is_entry, one_back}
use Rattle.cm_news.specs.Laws.{MovesTo, LeavesAs, InsideAndEdgeAreAll}

-- who is sent a bit, and by whom
sent_by : (entry : Bool) (q p : ℕ) → (let from : Option ℕ = if entry then None else Some q in from ≡ Some p)
    → (entry ≡ false) × (q ≡ p)
sent_by true q p e = cc
sent_by false q p e = (refl, cc)

-- the row or the column on which senders and receivers stand, told of both processors
record IsStep (dir : Dir) (p q : ℕ) : Type 0 where
  pub there : q < 16
  pub others : is_entry dir q ≡ false
  pub from : one_back dir q ≡ p

step_of : (dir : Dir) (p q : ℕ) → MovesTo dir p q → IsStep dir p q
step_of dir p q moves = let parts = sent_by (is_entry dir q) (one_back dir q) p moves.from in
    record { there = moves.there; others = parts.0; from = parts.1 }

moves_to : (dir : Dir) (p q : ℕ) → q < 16 → is_entry dir q ≡ false → one_back dir q ≡ p → MovesTo dir p q
moves_to dir p q h others e =
    record { there = h; from = ap (λ (b : Bool). if b then None else Some (one_back dir q)) others ∙ ap Some e }

somewhere : (dir : Dir) (p : ℕ) → p < 16 → ((q : ℕ) × MovesTo dir p q) ⊎ ((i : ℕ) × LeavesAs dir p i)
somewhere North p h = by (cases_eq (p / 4) 0) where
  by : (p / 4 ≡ 0) ⊎ (p / 4 ≢ 0) → ((q : ℕ) × MovesTo North p q) ⊎ ((i : ℕ) × LeavesAs North p i)
  by (inl first) = inr (p % 4, record { there = omega arith; from = omega arith })
  by (inr others) =
      inl (p - 4, moves_to North p (p - 4) (omega arith) (ne_eqb ((p - 4) / 4) 3 (λ e. omega arith)) (omega arith))
somewhere South p h = by (cases_eq (p / 4) 3) where
  by : (p / 4 ≡ 3) ⊎ (p / 4 ≢ 3) → ((q : ℕ) × MovesTo South p q) ⊎ ((i : ℕ) × LeavesAs South p i)
  by (inl last) = inr (p % 4, record { there = omega arith; from = omega arith })
  by (inr others) =
      inl (p + 4, moves_to South p (p + 4) (omega arith) (ne_eqb ((p + 4) / 4) 0 (λ e. omega arith)) (omega arith))
somewhere West p h = by (cases_eq (p % 4) 0) where
  by : (p % 4 ≡ 0) ⊎ (p % 4 ≢ 0) → ((q : ℕ) × MovesTo West p q) ⊎ ((i : ℕ) × LeavesAs West p i)
  by (inl first) = inr (p / 4, record { there = omega arith; from = omega arith })
  by (inr others) =
      inl (p - 1, moves_to West p (p - 1) (omega arith) (ne_eqb ((p - 1) % 4) 3 (λ e. omega arith)) (omega arith))
somewhere East p h = by (cases_eq (p % 4) 3) where
  by : (p % 4 ≡ 3) ⊎ (p % 4 ≢ 3) → ((q : ℕ) × MovesTo East p q) ⊎ ((i : ℕ) × LeavesAs East p i)
  by (inl last) = inr (p / 4, record { there = omega arith; from = omega arith })
  by (inr others) =
      inl (p + 1, moves_to East p (p + 1) (omega arith) (ne_eqb ((p + 1) % 4) 0 (λ e. omega arith)) (omega arith))

not_both : (dir : Dir) (p q i : ℕ) → IsStep dir p q → LeavesAs dir p i → ⊥
not_both North p q i step leaves = let others : q / 4 ≢ 3 = eqb-false (q / 4) 3 step.others in omega arith
not_both South p q i step leaves = let others : q / 4 ≢ 0 = eqb-false (q / 4) 0 step.others in omega arith
not_both West p q i step leaves = let others : q % 4 ≢ 3 = eqb-false (q % 4) 3 step.others in omega arith
not_both East p q i step leaves = let others : q % 4 ≢ 0 = eqb-false (q % 4) 0 step.others in omega arith

one_processor : (dir : Dir) (p q r : ℕ) → IsStep dir p q → IsStep dir p r → q ≡ r
one_processor North p q r step other = omega arith
one_processor South p q r step other =
    let here : q / 4 ≢ 0 = eqb-false (q / 4) 0 step.others in
    let there : r / 4 ≢ 0 = eqb-false (r / 4) 0 other.others in
    omega arith
one_processor West p q r step other = omega arith
one_processor East p q r step other =
    let here : q % 4 ≢ 0 = eqb-false (q % 4) 0 step.others in
    let there : r % 4 ≢ 0 = eqb-false (r % 4) 0 other.others in
    omega arith

one_edge_bit : (dir : Dir) (p i j : ℕ) → LeavesAs dir p i → LeavesAs dir p j → i ≡ j
one_edge_bit North p i j leaves other = omega arith
one_edge_bit South p i j leaves other = omega arith
one_edge_bit West p i j leaves other = omega arith
one_edge_bit East p i j leaves other = omega arith

pub inside_and_edge_are_all : InsideAndEdgeAreAll
inside_and_edge_are_all dir p h = record {
  somewhere = somewhere dir p h;
  not_both = λ q i moves leaves. not_both dir p q i (step_of dir p q moves) leaves;
  one_processor = λ q r moves other. one_processor dir p q r (step_of dir p q moves) (step_of dir p r other);
  one_edge_bit = one_edge_bit dir p;
}
