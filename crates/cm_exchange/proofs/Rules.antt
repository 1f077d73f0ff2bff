-- The rule of a lane: its word is told by what its sender has filed and holds, and by what its receiver has
-- cleared and holds.
use Rattle.std.proofs.Common.{◌≡◌, ℕ, zero, suc, ◌+◌, ◌*◌, ◌/◌, ◌%◌, ◌<◌, ◌≤◌, ◌⊎◌, inl, inr, sym, ap, ◌∙◌, refl}
use Rattle.std.proofs.Common.{Bool, true, false, List, length, None, eqb, arith}
use Rattle.std.proofs.lemmas.Bool.{eqb-true}
use Rattle.std.proofs.lemmas.Bool.Decides.{nat_tests}
use Rattle.std.specs.Prelude.{slice_get, nat_lt}
use Rattle.cm_blocks.specs.Parcels.{Parcel}
use Rattle.cm_exchange.specs.declared.stand.Stand.{Stand}
use Rattle.cm_exchange.specs.declared.step.Step.{Step}
use Rattle.cm_exchange.specs.declared.step.Step.TheVariants.{Grip, File, Draw, Clear}
use Rattle.cm_exchange.specs.Lanes.{kind_at, uses}
use Rattle.cm_exchange.specs.Worlds.{Lane, held_by}
use Rattle.cm_exchange.specs.Steps.{stage_of, is_moved, moved, stand_after}
use Rattle.cm_exchange.proofs.Uses.{one_if, uses-next}

-- one if a round is of the kind, at the stages of it at which the block has filed, holds its own lane,
-- holds its giver's
abbrev pub if_filed : ℕ → Bool → ℕ
if_filed zero its = 0
if_filed (suc zero) its = 0
if_filed (suc (suc stage)) its = one_if its

abbrev pub if_held : ℕ → Bool → ℕ
if_held zero its = 0
if_held (suc zero) its = one_if its
if_held (suc (suc stage)) its = 0

abbrev pub if_drawn : ℕ → Bool → ℕ
if_drawn zero its = 0
if_drawn (suc zero) its = 0
if_drawn (suc (suc zero)) its = 0
if_drawn (suc (suc (suc stage))) its = one_if its

-- the round of a block is of a kind
abbrev pub is_its : List ℕ → ℕ → Stand → Bool
is_its kinds kind stand = eqb (kind_at kinds stand.round) kind

-- how often a block has filed and cleared lanes of a kind, and whether it holds one
abbrev pub filed : List ℕ → ℕ → Stand → ℕ
filed kinds kind stand = uses kinds kind stand.round + if_filed stand.stage (is_its kinds kind stand)

abbrev pub holds : List ℕ → ℕ → Stand → ℕ
holds kinds kind stand = if_held stand.stage (is_its kinds kind stand)

abbrev pub cleared : List ℕ → ℕ → Stand → ℕ
cleared kinds kind stand = uses kinds kind stand.round

abbrev pub draws : List ℕ → ℕ → Stand → ℕ
draws kinds kind stand = if_drawn stand.stage (is_its kinds kind stand)

-- the rule of a lane of a kind, by where its two blocks stand
pub record Rules (kinds : List ℕ) (kind : ℕ) (sender receiver : Stand) (word : ℕ) : Type 0 where
  pub word_is : word
      ≡ 2 * (filed kinds kind sender + cleared kinds kind receiver) + holds kinds kind sender + draws kinds kind receiver
  pub back : cleared kinds kind receiver + draws kinds kind receiver ≤ filed kinds kind sender
  pub ahead : filed kinds kind sender + holds kinds kind sender ≤ cleared kinds kind receiver + 1

-- what a lane knows of its sender, and of its receiver, stays
pub record SendsAlike (kinds : List ℕ) (kind : ℕ) (old new : Stand) : Type 0 where
  pub filed_is : filed kinds kind new ≡ filed kinds kind old
  pub holds_is : holds kinds kind new ≡ holds kinds kind old

pub record GetsAlike (kinds : List ℕ) (kind : ℕ) (old new : Stand) : Type 0 where
  pub cleared_is : cleared kinds kind new ≡ cleared kinds kind old
  pub draws_is : draws kinds kind new ≡ draws kinds kind old

pub sends-same : (kinds : List ℕ) (kind : ℕ) (old new : Stand) → new ≡ old → SendsAlike kinds kind old new
sends-same kinds kind old new e =
    record { filed_is = ap (filed kinds kind) e; holds_is = ap (holds kinds kind) e }

pub gets-same : (kinds : List ℕ) (kind : ℕ) (old new : Stand) → new ≡ old → GetsAlike kinds kind old new
gets-same kinds kind old new e =
    record { cleared_is = ap (cleared kinds kind) e; draws_is = ap (draws kinds kind) e }

pub rules-same : (kinds : List ℕ) (kind : ℕ) (sender receiver new_sender new_receiver : Stand) (word new_word : ℕ)
    → SendsAlike kinds kind sender new_sender → GetsAlike kinds kind receiver new_receiver → new_word ≡ word
    → Rules kinds kind sender receiver word → Rules kinds kind new_sender new_receiver new_word
rules-same kinds kind sender receiver new_sender new_receiver word new_word s g w old = record {
  word_is = omega (arith, s.filed_is, s.holds_is, g.cleared_is, g.draws_is, w, old.word_is);
  back = omega (arith, s.filed_is, g.cleared_is, g.draws_is, old.back);
  ahead = omega (arith, s.filed_is, s.holds_is, g.cleared_is, old.ahead);
}

-- a step at one end of a lane changes nothing that lanes know of the block's other end
abbrev pub is_sending : Step → Bool
is_sending (Grip b) = true
is_sending (File b) = true
is_sending (Draw b) = false
is_sending (Clear b) = false

-- ---- what a step leaves as it is

pub sends-still : (kinds : List ℕ) (kind : ℕ) (step : Step) (stand : Stand) → stand.round < length kinds
    → stand.stage ≡ stage_of step → (is_sending step ≡ false) ⊎ (is_its kinds kind stand ≡ false)
    → SendsAlike kinds kind stand (stand_after step stand)
sends-still kinds kind (Grip b) stand l e (inl h) = absurd (let wrong : true ≡ false = h in cc)
sends-still kinds kind (Grip b) stand l e (inr h) =
    let its : Bool = is_its kinds kind stand in
    let f : if_filed stand.stage its ≡ 0 = ap (λ (z : ℕ). if_filed z its) e in
    let g : if_held stand.stage its ≡ 0 = ap (λ (z : ℕ). if_held z its) e in
    let m : one_if its ≡ 0 = ap one_if h in
    record { filed_is = omega (arith, f); holds_is = omega (arith, g, m) }
sends-still kinds kind (File b) stand l e (inl h) = absurd (let wrong : true ≡ false = h in cc)
sends-still kinds kind (File b) stand l e (inr h) =
    let its : Bool = is_its kinds kind stand in
    let f : if_filed stand.stage its ≡ 0 = ap (λ (z : ℕ). if_filed z its) e in
    let g : if_held stand.stage its ≡ one_if its = ap (λ (z : ℕ). if_held z its) e in
    let m : one_if its ≡ 0 = ap one_if h in
    record { filed_is = omega (arith, f, m); holds_is = omega (arith, g, m) }
sends-still kinds kind (Draw b) stand l e h =
    let its : Bool = is_its kinds kind stand in
    let f : if_filed stand.stage its ≡ one_if its = ap (λ (z : ℕ). if_filed z its) e in
    let g : if_held stand.stage its ≡ 0 = ap (λ (z : ℕ). if_held z its) e in
    record { filed_is = omega (arith, f); holds_is = omega (arith, g) }
sends-still kinds kind (Clear b) stand l e h =
    let its : Bool = is_its kinds kind stand in
    let f : if_filed stand.stage its ≡ one_if its = ap (λ (z : ℕ). if_filed z its) e in
    let g : if_held stand.stage its ≡ 0 = ap (λ (z : ℕ). if_held z its) e in
    let one : stand.round + 1 ≡ suc stand.round = omega arith in
    let more : uses kinds kind (stand.round + 1) ≡ uses kinds kind stand.round + one_if its =
    ap (uses kinds kind) one ∙ uses-next kinds kind stand.round l in
    record { filed_is = omega (arith, f, more); holds_is = omega (arith, g) }

pub gets-still : (kinds : List ℕ) (kind : ℕ) (step : Step) (stand : Stand) → stand.round < length kinds
    → stand.stage ≡ stage_of step → (is_sending step ≡ true) ⊎ (is_its kinds kind stand ≡ false)
    → GetsAlike kinds kind stand (stand_after step stand)
gets-still kinds kind (Grip b) stand l e h =
    record { cleared_is = refl; draws_is = sym (ap (λ (z : ℕ). if_drawn z (is_its kinds kind stand)) e) }
gets-still kinds kind (File b) stand l e h =
    record { cleared_is = refl; draws_is = sym (ap (λ (z : ℕ). if_drawn z (is_its kinds kind stand)) e) }
gets-still kinds kind (Draw b) stand l e (inl h) = absurd (let wrong : false ≡ true = h in cc)
gets-still kinds kind (Draw b) stand l e (inr h) =
    let its : Bool = is_its kinds kind stand in
    let g : if_drawn stand.stage its ≡ 0 = ap (λ (z : ℕ). if_drawn z its) e in
    let m : one_if its ≡ 0 = ap one_if h in
    record { cleared_is = refl; draws_is = omega (arith, g, m) }
gets-still kinds kind (Clear b) stand l e (inl h) = absurd (let wrong : false ≡ true = h in cc)
gets-still kinds kind (Clear b) stand l e (inr h) =
    let its : Bool = is_its kinds kind stand in
    let g : if_drawn stand.stage its ≡ one_if its = ap (λ (z : ℕ). if_drawn z its) e in
    let m : one_if its ≡ 0 = ap one_if h in
    let one : stand.round + 1 ≡ suc stand.round = omega arith in
    let more : uses kinds kind (stand.round + 1) ≡ uses kinds kind stand.round + one_if its =
    ap (uses kinds kind) one ∙ uses-next kinds kind stand.round l in
    record { cleared_is = omega (arith, more, m); draws_is = omega (arith, g, m) }

-- ---- the lane that a step moves

-- the lane of which the block is the sender
pub rules-sent : (kinds : List ℕ) (kind : ℕ) (step : Step) (dues : List Parcel) (lane : Lane)
    (stand receiver new_receiver : Stand)
    → stand.stage ≡ stage_of step → is_sending step ≡ true → is_its kinds kind stand ≡ true
    → GetsAlike kinds kind receiver new_receiver
    → is_moved step (uses kinds kind stand.round) lane.word ≡ true
    → Rules kinds kind stand receiver lane.word
    → Rules kinds kind (stand_after step stand) new_receiver (moved step dues (uses kinds kind stand.round) lane).word
rules-sent kinds kind (Grip b) dues lane stand receiver new_receiver e s i g may old =
    let its : Bool = is_its kinds kind stand in
    let f : if_filed stand.stage its ≡ 0 = ap (λ (z : ℕ). if_filed z its) e in
    let h : if_held stand.stage its ≡ 0 = ap (λ (z : ℕ). if_held z its) e in
    let m : one_if its ≡ 1 = ap one_if i in
    let word : lane.word ≡ 4 * uses kinds kind stand.round = eqb-true lane.word (4 * uses kinds kind stand.round) may in
    record {
      word_is = omega (arith, f, h, m, word, old.word_is, old.back, old.ahead, g.cleared_is, g.draws_is);
      back = omega (arith, f, h, m, word, old.word_is, old.back, old.ahead, g.cleared_is, g.draws_is);
      ahead = omega (arith, f, h, m, word, old.word_is, old.back, old.ahead, g.cleared_is, g.draws_is);
    }
rules-sent kinds kind (File b) dues lane stand receiver new_receiver e s i g may old =
    let its : Bool = is_its kinds kind stand in
    let f : if_filed stand.stage its ≡ 0 = ap (λ (z : ℕ). if_filed z its) e in
    let h : if_held stand.stage its ≡ one_if its = ap (λ (z : ℕ). if_held z its) e in
    let m : one_if its ≡ 1 = ap one_if i in
    record {
      word_is = omega (arith, f, h, m, old.word_is, old.back, old.ahead, g.cleared_is, g.draws_is);
      back = omega (arith, f, h, m, old.word_is, old.back, old.ahead, g.cleared_is, g.draws_is);
      ahead = omega (arith, f, h, m, old.word_is, old.back, old.ahead, g.cleared_is, g.draws_is);
    }
rules-sent kinds kind (Draw b) dues lane stand receiver new_receiver e s i g may old =
    absurd (let wrong : false ≡ true = s in cc)
rules-sent kinds kind (Clear b) dues lane stand receiver new_receiver e s i g may old =
    absurd (let wrong : false ≡ true = s in cc)

-- the lane of which it is the receiver
pub rules-got : (kinds : List ℕ) (kind : ℕ) (step : Step) (dues : List Parcel) (lane : Lane)
    (stand sender new_sender : Stand)
    → stand.round < length kinds → stand.stage ≡ stage_of step → is_sending step ≡ false
    → is_its kinds kind stand ≡ true
    → SendsAlike kinds kind sender new_sender
    → is_moved step (uses kinds kind stand.round) lane.word ≡ true
    → Rules kinds kind sender stand lane.word
    → Rules kinds kind new_sender (stand_after step stand) (moved step dues (uses kinds kind stand.round) lane).word
rules-got kinds kind (Grip b) dues lane stand sender new_sender l e s i g may old =
    absurd (let wrong : true ≡ false = s in cc)
rules-got kinds kind (File b) dues lane stand sender new_sender l e s i g may old =
    absurd (let wrong : true ≡ false = s in cc)
rules-got kinds kind (Draw b) dues lane stand sender new_sender l e s i g may old =
    let its : Bool = is_its kinds kind stand in
    let d : if_drawn stand.stage its ≡ 0 = ap (λ (z : ℕ). if_drawn z its) e in
    let m : one_if its ≡ 1 = ap one_if i in
    let word : lane.word ≡ 4 * uses kinds kind stand.round + 2 =
    eqb-true lane.word (4 * uses kinds kind stand.round + 2) may in
    record {
      word_is = omega (arith, d, m, word, old.word_is, old.back, old.ahead, g.filed_is, g.holds_is);
      back = omega (arith, d, m, word, old.word_is, old.back, old.ahead, g.filed_is, g.holds_is);
      ahead = omega (arith, d, m, word, old.word_is, old.back, old.ahead, g.filed_is, g.holds_is);
    }
rules-got kinds kind (Clear b) dues lane stand sender new_sender l e s i g may old =
    let its : Bool = is_its kinds kind stand in
    let d : if_drawn stand.stage its ≡ one_if its = ap (λ (z : ℕ). if_drawn z its) e in
    let m : one_if its ≡ 1 = ap one_if i in
    let one : stand.round + 1 ≡ suc stand.round = omega arith in
    let more : uses kinds kind (stand.round + 1) ≡ uses kinds kind stand.round + one_if its =
    ap (uses kinds kind) one ∙ uses-next kinds kind stand.round l in
    record {
      word_is = omega (arith, d, m, more, old.word_is, old.back, old.ahead, g.filed_is, g.holds_is);
      back = omega (arith, d, m, more, old.word_is, old.back, old.ahead, g.filed_is, g.holds_is);
      ahead = omega (arith, d, m, more, old.word_is, old.back, old.ahead, g.filed_is, g.holds_is);
    }

-- ---- what it holds

held-empty : (dues : List Parcel) (count word rest : ℕ) → word ≡ 4 * count + rest → rest < 2
    → held_by dues word ≡ None
held-empty dues count word rest e l =
    let w : word % 4 < 2 = omega (arith, e, l) in
    let t : nat_lt (word % 4) 2 ≡ true = grind (arith, nat_tests) in
    rw t refl

pub held-full : (dues : List Parcel) (count word rest : ℕ) → word ≡ 4 * count + rest → 2 ≤ rest → rest < 4
    → held_by dues word ≡ slice_get dues count
held-full dues count word rest e l m =
    let w : 2 ≤ word % 4 = omega (arith, e, l, m) in
    let c : word / 4 ≡ count = omega (arith, e, l, m) in
    let t : nat_lt (word % 4) 2 ≡ false = grind (arith, nat_tests) in
    rw t (ap (slice_get dues) c)

-- a moved lane holds what its word says
pub moved-held : (step : Step) (dues : List Parcel) (count : ℕ) (lane : Lane)
    → is_moved step count lane.word ≡ true → lane.parcel ≡ held_by dues lane.word
    → (moved step dues count lane).parcel ≡ held_by dues (moved step dues count lane).word
moved-held (Grip b) dues count lane may old =
    let word : lane.word ≡ 4 * count + 0 = omega (arith, eqb-true lane.word (4 * count) may) in
    old ∙ held-empty dues count lane.word 0 word (omega arith)
    ∙ sym (held-empty dues count (4 * count + 1) 1 refl (omega arith))
moved-held (File b) dues count lane may old =
    sym (held-full dues count (4 * count + 2) 2 refl (omega arith) (omega arith))
moved-held (Draw b) dues count lane may old =
    old ∙ held-full dues count lane.word 2 (eqb-true lane.word (4 * count + 2) may) (omega arith) (omega arith)
    ∙ sym (held-full dues count (4 * count + 3) 3 refl (omega arith) (omega arith))
moved-held (Clear b) dues count lane may old =
    sym (held-empty dues (count + 1) (4 * count + 4) 0 (omega arith) (omega arith))
