-- Numbers among bytes.
use Rattle.std.proofs.Common.{◌≡◌, ℕ, ◌+◌, ◌<◌, List, [], ◌∷◌, get_or, take, drop, refl, arith, lit<, inl, inr}
use Rattle.std.specs.Int.{w16, w32, w64, from_be_bytes}
use Rattle.std.proofs.lemmas.List.{get_or-drop, get_or-take, get_or_past, length-take}
use Rattle.std.proofs.lemmas.Bool.{cases_lt}

-- what is read of the rest of a list
pub dropped : (at : ℕ) (bytes : List ℕ) (i : ℕ) → get_or (drop at bytes) i 0 ≡ get_or bytes (at + i) 0
dropped at bytes i = get_or-drop at bytes i 0

-- where all bytes are below 256, those of a part are
pub small_part : (bytes : List ℕ) (at n : ℕ) → ((i : ℕ) → get_or bytes i 0 < 256) → (i : ℕ)
    → get_or (take n (drop at bytes)) i 0 < 256
small_part bytes at n small i = elim (cases_lt i n) [
  | inl inside ↦ rw (get_or-take n (drop at bytes) i 0 inside, get_or-drop at bytes i 0) (small (at + i))
  | inr past ↦ rw (get_or_past (take n (drop at bytes)) i 0 (omega (arith, length-take n (drop at bytes)))) (lit< tt)
]

-- a number is told by its own bytes alone
pub from_be_bytes-take_2 : (bytes : List ℕ) → from_be_bytes w16 bytes ≡ from_be_bytes w16 (take 2 bytes)
from_be_bytes-take_2 [] = refl
from_be_bytes-take_2 (a ∷ []) = refl
from_be_bytes-take_2 (a ∷ b ∷ rest) = refl

pub from_be_bytes-take_4 : (bytes : List ℕ) → from_be_bytes w32 bytes ≡ from_be_bytes w32 (take 4 bytes)
from_be_bytes-take_4 [] = refl
from_be_bytes-take_4 (a ∷ []) = refl
from_be_bytes-take_4 (a ∷ b ∷ []) = refl
from_be_bytes-take_4 (a ∷ b ∷ c ∷ []) = refl
from_be_bytes-take_4 (a ∷ b ∷ c ∷ d ∷ rest) = refl

pub from_be_bytes-take_8 : (bytes : List ℕ) → from_be_bytes w64 bytes ≡ from_be_bytes w64 (take 8 bytes)
from_be_bytes-take_8 [] = refl
from_be_bytes-take_8 (a ∷ []) = refl
from_be_bytes-take_8 (a ∷ b ∷ []) = refl
from_be_bytes-take_8 (a ∷ b ∷ c ∷ []) = refl
from_be_bytes-take_8 (a ∷ b ∷ c ∷ d ∷ []) = refl
from_be_bytes-take_8 (a ∷ b ∷ c ∷ d ∷ e ∷ []) = refl
from_be_bytes-take_8 (a ∷ b ∷ c ∷ d ∷ e ∷ f ∷ []) = refl
from_be_bytes-take_8 (a ∷ b ∷ c ∷ d ∷ e ∷ f ∷ g ∷ []) = refl
from_be_bytes-take_8 (a ∷ b ∷ c ∷ d ∷ e ∷ f ∷ g ∷ h ∷ rest) = refl
