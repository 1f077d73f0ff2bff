-- Things dealt out to hands in turn, as cards. Ours.
use Rattle.std.specs.Prelude.{◌≡◌, ◌≢◌, ◌↔◌, ℕ, ◌+◌, ◌*◌, ◌<◌, ◌++◌, [], ◌∷◌, List, length, get_or, Vec}
use Rattle.std.specs.declared.alloc.Global.{Global}

-- the things of a hand
abbrev pub hand : {X : Type 0} → List (Vec X Global) → Vec X Global → ℕ → List X
hand hands e r = (get_or hands r e).items

-- so many hands, each with nothing in it
pub record AreEmptyHands {X : Type 0} (count : ℕ) (hands : List (Vec X Global)) : Type 0 where
  pub len : length hands ≡ count
  pub each : (r : ℕ) (e : Vec X Global) → r < count → hand hands e r ≡ []

-- a hand has one thing more, behind the others, and the other hands have what they had
pub record HasPut {X : Type 0} (r : ℕ) (thing : X) (old new : List (Vec X Global)) : Type 0 where
  pub len : length new ≡ length old
  pub here : (e : Vec X Global) → hand new e r ≡ hand old e r ++ thing ∷ []
  pub others : (s : ℕ) (e : Vec X Global) → s ≢ r → hand new e s ≡ hand old e s

-- each hand has as many of so many things as it gets, if they are dealt out in turn:
-- thing q * count + r comes to hand r
abbrev pub AreShares : {X : Type 0} → ℕ → ℕ → List (Vec X Global) → Type 0
AreShares count many hands = (r q : ℕ) (e : _) → r < count → (q < length (hand hands e r)) ↔ (q * count + r < many)

-- so many hands have these things: thing q * count + r is at place q of hand r
pub record AreDealt {X : Type 0} (count : ℕ) (things : List X) (hands : List (Vec X Global)) : Type 0 where
  pub len : length hands ≡ count
  pub shares : AreShares count (length things) hands
  pub each : (r q : ℕ) (e : Vec X Global) (d : X) → r < count → q * count + r < length things
      → get_or (hand hands e r) q d ≡ get_or things (q * count + r) d
