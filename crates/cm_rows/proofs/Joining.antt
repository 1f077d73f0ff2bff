-- Words of rows that are computed one part after another.
use Rattle.std.proofs.Common.{◌≡◌, ◌≢◌, inl, inr, ℕ, ◌+◌, ◌-◌, ◌*◌, ◌<◌, ◌≤◌, Bool, List, length, cond, get_or, set}
use Rattle.std.proofs.Common.{get_or-set_same, get_or-set_other, ap, refl, sym, ◌∙◌, ⊎_elim, arith, add-one}
use Rattle.std.proofs.lemmas.Bool.{cases_lt}
use Rattle.std.proofs.lemmas.Nat.{mul-le}
use Rattle.std.proofs.Math.Nat.{mul-suc}
use Rattle.cm_bits.specs.Bit.{bit}
use Rattle.cm_model.specs.Chip.{IsPlane}
use Rattle.cm_rows.specs.declared.places.Places.{Places}
use Rattle.cm_rows.specs.Rows.{stores, plane_output, IsChosenOrOld, IsComputed, IsApart, AreRowsApart}

-- the words that the parts from mid on read are as they were
pub record AreUnread (at : Places) (mid to : ℕ) (memory memory_mid flags flags_mid : List ℕ) : Type 0 where
  pub a : (k : ℕ) → mid ≤ k → k < to → get_or memory_mid (at.a + k) 0 ≡ get_or memory (at.a + k) 0
  pub b : (k : ℕ) → mid ≤ k → k < to → get_or memory_mid (at.b + k) 0 ≡ get_or memory (at.b + k) 0
  pub read : (k : ℕ) → mid ≤ k → k < to → get_or flags_mid (at.read + k) 0 ≡ get_or flags (at.read + k) 0
  pub cond : (k : ℕ) → mid ≤ k → k < to → get_or flags_mid (at.cond + k) 0 ≡ get_or flags (at.cond + k) 0

-- outside of a part nothing is written
pub record IsWithin (row from to : ℕ) (old new : List ℕ) : Type 0 where
  pub below : (i : ℕ) → i < row + from → get_or new i 0 ≡ get_or old i 0
  pub above : (i : ℕ) → row + to ≤ i → get_or new i 0 ≡ get_or old i 0

pub apart_kept : (row read from mid to : ℕ) (old new : List ℕ) → IsApart row read to → IsWithin row from mid old new
    → (k : ℕ) → mid ≤ k → k < to → get_or new (read + k) 0 ≡ get_or old (read + k) 0
apart_kept row read from mid to old new apart within k low high = ⊎_elim
    (λ (after : row ≤ read). within.above (read + k) (omega arith))
    (λ (before : read + to ≤ row). within.below (read + k) (omega arith))
    apart

pub unread : (at : Places) (from mid to : ℕ) (memory memory_mid flags flags_mid : List ℕ)
    → IsWithin at.a from mid memory memory_mid → IsWithin at.write from mid flags flags_mid
    → AreRowsApart at to → AreUnread at mid to memory memory_mid flags flags_mid
unread at from mid to memory memory_mid flags flags_mid m f apart = record {
  a = λ k low high. m.above (at.a + k) (omega arith);
  b = apart_kept at.a at.b from mid to memory memory_mid apart.b m;
  read = apart_kept at.write at.read from mid to flags flags_mid apart.read f;
  cond = apart_kept at.write at.cond from mid to flags flags_mid apart.cond f;
}

pub kept_moved : (table : ℕ) (chained always sense : Bool) (a a2 b b2 f f2 c c2 old old2 new new2 : ℕ)
    → a ≡ a2 → b ≡ b2 → f ≡ f2 → c ≡ c2 → old ≡ old2 → new2 ≡ new
    → IsChosenOrOld table chained (λ p. stores always sense (bit c p)) a b f old new
    → IsChosenOrOld table chained (λ p. stores always sense (bit c2 p)) a2 b2 f2 old2 new2
kept_moved table chained always sense a a2 b b2 f f2 c c2 old old2 new new2 a_is b_is f_is c_is old_is new_is kept p h =
    ap (λ (w : ℕ). bit w p) new_is ∙ kept p h
    ∙ (λ j. cond (stores always sense (bit (c_is j) p))
    (plane_output table chained (a_is j) (b_is j) (f_is j) p) (bit (old_is j) p))

-- a row ends before another also at fewer words
pub apart_sooner : (written read few many : ℕ) → few ≤ many → IsApart written read many → IsApart written read few
apart_sooner written read few many fewer apart = ⊎_elim
    (λ (after : written ≤ read). cases_after after)
    (λ (before : read + many ≤ written). cases_before (omega arith))
    apart where
      cases_after : written ≤ read → IsApart written read few
      cases_after h = inl h

      cases_before : read + few ≤ written → IsApart written read few
      cases_before h = inr h

-- so do all rows
pub all_apart_sooner : (at : Places) (few many : ℕ) → few ≤ many → AreRowsApart at many → AreRowsApart at few
all_apart_sooner at few many fewer apart = record {
  b = apart_sooner at.a at.b few many fewer apart.b;
  read = apart_sooner at.write at.read few many fewer apart.read;
  cond = apart_sooner at.write at.cond few many fewer apart.cond;
}

pub unread_memory : (at : Places) (from mid to : ℕ) (memory memory_mid flags : List ℕ)
    → IsWithin at.a from mid memory memory_mid → IsApart at.a at.b to
    → AreUnread at mid to memory memory_mid flags flags
unread_memory at from mid to memory memory_mid flags m b_apart = record {
  a = λ k low high. m.above (at.a + k) (omega arith);
  b = apart_kept at.a at.b from mid to memory memory_mid b_apart m;
  read = λ k low high. refl;
  cond = λ k low high. refl;
}

-- one part after another is both
pub joined : (table : ℕ) (chained always sense : Bool) (at : Places) (row from mid to : ℕ)
    (memory memory_mid flags flags_mid old old_mid new : List ℕ)
    → from ≤ mid → mid ≤ to
    → IsComputed table chained always sense at row from mid memory flags old old_mid
    → IsComputed table chained always sense at row mid to memory_mid flags_mid old_mid new
    → AreUnread at mid to memory memory_mid flags flags_mid
    → IsComputed table chained always sense at row from to memory flags old new
joined table chained always sense at row from mid to memory memory_mid flags flags_mid old old_mid new lower upper
    first second same = record {
      each = λ k low high. ⊎_elim
          (λ (before : k < mid). let here : row + k < row + mid = omega arith in
          λ p h. ap (λ (w : ℕ). bit w p) (second.below (row + k) here) ∙ first.each k low before p h)
          (λ (after : mid ≤ k). let there : row + mid ≤ row + k = omega arith in kept_moved table chained always sense
          (get_or memory_mid (at.a + k) 0) (get_or memory (at.a + k) 0) (get_or memory_mid (at.b + k) 0)
          (get_or memory (at.b + k) 0)
          (get_or flags_mid (at.read + k) 0) (get_or flags (at.read + k) 0) (get_or flags_mid (at.cond + k) 0)
          (get_or flags (at.cond + k) 0)
          (get_or old_mid (row + k) 0) (get_or old (row + k) 0) (get_or new (row + k) 0) (get_or new (row + k) 0)
          (same.a k after high) (same.b k after high) (same.read k after high) (same.cond k after high)
          (first.above (row + k) there) refl
          (second.each k after high))
          (cases_lt k mid);
      below = λ i h. second.below i (omega arith) ∙ first.below i h;
      above = λ i h. second.above i h ∙ first.above i (omega arith);
    }

-- what is computed leaves the rest
pub within : (table : ℕ) (chained always sense : Bool) (at : Places) (row from to : ℕ) (memory flags old new : List ℕ)
    → IsComputed table chained always sense at row from to memory flags old new → IsWithin row from to old new
within table chained always sense at row from to memory flags old new is = record { below = is.below; above = is.above }

-- no word at all
pub nothing : (table : ℕ) (chained always sense : Bool) (at : Places) (row from : ℕ) (memory flags old : List ℕ)
    → IsComputed table chained always sense at row from from memory flags old old
nothing table chained always sense at row from memory flags old = record {
  each = λ k low high. absurd (omega arith);
  below = λ i h. refl;
  above = λ i h. refl;
}

-- to a place that is told otherwise
pub to_there : (table : ℕ) (chained always sense : Bool) (at : Places) (row from to there : ℕ)
    (memory flags old new : List ℕ) → to ≡ there
    → IsComputed table chained always sense at row from to memory flags old new
    → IsComputed table chained always sense at row from there memory flags old new
to_there table chained always sense at row from to there memory flags old new is computed = record {
  each = λ k low high. computed.each k low (omega (arith, is, high));
  below = computed.below;
  above = λ i h. computed.above i (omega (arith, is, h));
}

kept_chosen : (table : ℕ) (chained : Bool) (choice : ℕ) (stored : ℕ → Bool) (a b f old word : ℕ) → IsPlane choice stored
    → IsChosenOrOld table chained (bit choice) a b f old word → IsChosenOrOld table chained stored a b f old word
kept_chosen table chained choice stored a b f old word is kept p h = kept p h
    ∙ ap (λ v. cond v (plane_output table chained a b f p) (bit old p)) (is p h)

-- one word
pub one_word : (table : ℕ) (chained always sense : Bool) (at : Places) (row k choice word : ℕ)
    (memory flags old : List ℕ) → row + k < length old
    → IsPlane choice (λ p. stores always sense (bit (get_or flags (at.cond + k) 0) p))
    → IsChosenOrOld table chained (bit choice) (get_or memory (at.a + k) 0) (get_or memory (at.b + k) 0)
    (get_or flags (at.read + k) 0) (get_or old (row + k) 0) word
    → IsComputed table chained always sense at row k (k + 1) memory flags old (set old (row + k) word)
one_word table chained always sense at row k choice word memory flags old inside chosen kept = record {
  each = λ j low high. let same : j ≡ k = omega arith in
      rw same (λ p h. ap (λ (w : ℕ). bit w p) (get_or-set_same old (row + k) word 0 inside)
      ∙ kept_chosen table chained choice (λ q. stores always sense (bit (get_or flags (at.cond + k) 0) q))
      (get_or memory (at.a + k) 0) (get_or memory (at.b + k) 0) (get_or flags (at.read + k) 0)
      (get_or old (row + k) 0) word chosen kept p h);
  below = λ i h. let other : i ≢ row + k = omega arith in get_or-set_other old (row + k) i word 0 other;
  above = λ i h. let other : i ≢ row + k = omega arith in get_or-set_other old (row + k) i word 0 other;
}

-- so many lanes are words of a list
abbrev pub AreLanes : ℕ → List ℕ → List ℕ → ℕ → Type 0
AreLanes many lanes words at = (k : ℕ) → k < many → get_or lanes k 0 ≡ get_or words (at + k) 0

lane_of : (many : ℕ) (lanes words : List ℕ) (row from j : ℕ) → AreLanes many lanes words (row + from) → from ≤ j
    → j < from + many
    → get_or lanes (j - from) 0 ≡ get_or words (row + j) 0
lane_of many lanes words row from j are low high = are (j - from) (omega arith)
    ∙ ap (λ (i : ℕ). get_or words i 0) (omega arith)

-- so many words
pub one_block : (many table : ℕ) (chained always sense : Bool) (at : Places) (row from : ℕ) (memory flags old new : List ℕ)
    (a b f here condition choice outputs : List ℕ)
    → AreLanes many a memory (at.a + from) → AreLanes many b memory (at.b + from) → AreLanes many f flags (at.read + from)
    → AreLanes many here old (row + from) → AreLanes many condition flags (at.cond + from)
    → ((k : ℕ) → k < many → IsPlane (get_or choice k 0) (λ p. stores always sense (bit (get_or condition k 0) p)))
    → ((k : ℕ) → k < many → IsChosenOrOld table chained (bit (get_or choice k 0)) (get_or a k 0) (get_or b k 0) (get_or f k 0)
    (get_or here k 0) (get_or outputs k 0))
    → ((k : ℕ) → k < many → get_or new (row + from + k) 0 ≡ get_or outputs k 0)
    → ((i : ℕ) → i < row + from → get_or new i 0 ≡ get_or old i 0)
    → ((i : ℕ) → row + from + many ≤ i → get_or new i 0 ≡ get_or old i 0)
    → IsComputed table chained always sense at row from (from + many) memory flags old new
one_block many table chained always sense at row from memory flags old new a b f here condition choice outputs a_is b_is f_is
    here_is condition_is chosen kept put below above = record {
      each = λ j low high. let k : ℕ = j - from in let few : j - from < many = omega arith in
          kept_moved table chained always sense
          (get_or a k 0) (get_or memory (at.a + j) 0) (get_or b k 0) (get_or memory (at.b + j) 0) (get_or f k 0)
          (get_or flags (at.read + j) 0)
          (get_or condition k 0) (get_or flags (at.cond + j) 0) (get_or here k 0) (get_or old (row + j) 0)
          (get_or outputs k 0) (get_or new (row + j) 0)
          (lane_of many a memory at.a from j a_is low high) (lane_of many b memory at.b from j b_is low high)
          (lane_of many f flags at.read from j f_is low high)
          (lane_of many condition flags at.cond from j condition_is low high) (lane_of many here old row from j here_is low high)
          (ap (λ (i : ℕ). get_or new i 0) (omega arith) ∙ put k few)
          (kept_chosen table chained (get_or choice k 0)
          (λ p. stores always sense (bit (get_or condition k 0) p)) (get_or a
          k 0) (get_or b k 0) (get_or f k 0) (get_or here k 0) (get_or outputs k 0) (chosen k few) (kept k few));
      below = below;
      above = λ i h. above i (omega arith);
    }

-- so many words, of which what is stored and where was found first
pub one_tile : (many table : ℕ) (chained always sense : Bool) (at : Places) (row from : ℕ) (memory flags old new : List ℕ)
    (choice outputs : List ℕ)
    → ((k : ℕ) → k < many
    → IsPlane (get_or choice k 0) (λ p. stores always sense (bit (get_or flags (at.cond + from + k) 0) p)))
    → ((k : ℕ) → k < many → IsPlane (get_or outputs k 0) (plane_output table chained (get_or memory (at.a + from + k) 0)
    (get_or memory (at.b + from + k) 0) (get_or flags (at.read + from + k) 0)))
    → ((k : ℕ) → k < many → (p : ℕ) → bit (get_or new (row + from + k) 0) p
    ≡ cond (bit (get_or choice k 0) p) (bit (get_or outputs k 0) p) (bit (get_or old (row + from + k) 0) p))
    → ((i : ℕ) → i < row + from → get_or new i 0 ≡ get_or old i 0)
    → ((i : ℕ) → row + from + many ≤ i → get_or new i 0 ≡ get_or old i 0)
    → IsComputed table chained always sense at row from (from + many) memory flags old new
one_tile many table chained always sense at row from memory flags old new choice outputs chosen found put below above =
    record {
      each = λ j low high p h.
          let k : ℕ = j - from in
          let few : j - from < many = omega arith in
          let there : (base : ℕ) → base + from + (j - from) ≡ base + j = λ base. omega arith in
          sym (ap (λ (i : ℕ). bit (get_or new i 0) p) (there row)) ∙ put k few p
          ∙ (λ i. cond (chosen k few p h i) (found k few p h i) (bit (get_or old (row + from + k) 0) p))
          ∙ (λ i. cond (stores always sense (bit (get_or flags (there at.cond i) 0) p))
          (plane_output table chained (get_or memory (there at.a i) 0) (get_or memory (there at.b i) 0)
          (get_or flags (there at.read i) 0) p) (bit (get_or old (there row i) 0) p));
      below = below;
      above = λ i h. above i (omega arith);
    }

-- ---- blocks of so many words

pub one_more : (many t : ℕ) → many * (t + 1) ≡ many * t + many
one_more many t = rw add-one (mul-suc many t)

pub block_fits : (many t whole : ℕ) → t < whole → many * t + many ≤ many * whole
block_fits many t whole h = rw (← one_more many t) (mul-le many (t + 1) many whole (omega arith) (omega arith))
