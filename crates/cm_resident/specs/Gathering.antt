-- What the threads of a team leave, rows of things, the first of each hand, and things of a number of them. Ours.
use Rattle.std.specs.Prelude.{◌≡◌, ℕ, ◌+◌, ◌<◌, ◌≤◌, min, List, [], drop, length, get_or, Vec}
use Rattle.std.specs.declared.alloc.Global.{Global}
use Rattle.cm_gates.specs.Dealing.{hand}

-- the first thing of each of the first m hands stands behind the things, as long as there are not so many
pub record IsRowTaken {X : Type 0} (total m : ℕ) (hands : List (Vec X Global)) (things : List X)
    (now : List (Vec X Global)) (more : List X) : Type 0 where
  pub len : length now ≡ length hands
  pub count : length more ≡ min (length things + m) total
  pub rest : (i : ℕ) (d : X) → i < length things → get_or more i d ≡ get_or things i d
  pub each : (w : ℕ) (e : Vec X Global) (d : X) → w < m → length things + w < total
      → get_or more (length things + w) d ≡ get_or (hand hands e w) 0 d
  pub taken : (w : ℕ) (e : Vec X Global) → w < m → hand now e w ≡ drop 1 (hand hands e w)
  pub left : (w : ℕ) (e : Vec X Global) → m ≤ w → hand now e w ≡ hand hands e w

-- the first thing of each hand is taken out
pub record AreFirsts {X : Type 0} (hands now : List (Vec X Global)) (firsts : List X) : Type 0 where
  pub len : length now ≡ length hands
  pub count : length firsts ≡ length hands
  pub each : (w : ℕ) (e : Vec X Global) (d : X) → w < length hands → get_or firsts w d ≡ get_or (hand hands e w) 0 d
  pub taken : (w : ℕ) (e : Vec X Global) → w < length hands → hand now e w ≡ drop 1 (hand hands e w)

-- so many things, each of which is so by its number
pub record AreAll {X : Type 0} (Is : ℕ → X → Type 0) (total : ℕ) (things : List X) : Type 0 where
  pub len : length things ≡ total
  pub each : (i : ℕ) (d : X) → i < total → Is i (get_or things i d)

-- of so many things those from one on
pub record AreFrom {X : Type 0} (Is : ℕ → X → Type 0) (from total : ℕ) (things : List X) : Type 0 where
  pub len : length things + from ≡ total
  pub each : (i : ℕ) (d : X) → from + i < total → Is (from + i) (get_or things i d)

-- three lists with nothing in them
pub record AreEmpty {A B C : Type 0} (one : List A) (two : List B) (three : List C) : Type 0 where
  pub first : one ≡ []
  pub second : two ≡ []
  pub third : three ≡ []

-- room for so many in three lists
pub record HaveRoom (many one two three : ℕ) : Type 0 where
  pub first : many ≤ one
  pub second : many ≤ two
  pub third : many ≤ three
