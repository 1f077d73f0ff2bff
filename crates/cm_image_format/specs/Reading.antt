-- Reading bytes from left to right, part after part, with the first fault that is met. Ours.
use Rattle.std.specs.Prelude.{◌≡◌, MatchResult, ℕ, Bool, List, [], ◌∷◌, Option, Some, None, Result, Ok, Err, zero, suc}
use Rattle.std.specs.Prelude.{length, drop, nat_lt, if◌then◌else◌}
use Rattle.std.specs.Int.{Width, byte_len, from_be_bytes}
use Rattle.cm_image_format.specs.declared.fault.ImageFault.{ImageFault}
use Rattle.cm_image_format.specs.declared.fault.ImageFault.TheVariants.{Short}

infixl 10 ◌>>=◌
-- what comes after, unless a fault came before
abbrev pub ◌>>=◌ : {A B : Type 0} → Result A ImageFault → (A → Result B ImageFault) → Result B ImageFault
(Ok x) >>= f = f x
(Err fault) >>= f = Err fault

-- a value and the bytes after it, or the first fault
abbrev pub Read : Type 0 → Type 0
Read A = Result (A × List ℕ) ImageFault

-- how a number may be refused
abbrev pub Check : Type 0
Check = ℕ → Option ImageFault

-- with this fault, where the test fails
abbrev pub must : ImageFault → (ℕ → Bool) → Check
must fault holds n = if holds n then None else Some fault

-- the value, unless there is a fault
abbrev pub unless : {A : Type 0} → Option ImageFault → A → Result A ImageFault
unless None x = Ok x
unless (Some fault) x = Err fault

-- a number of this width, whose bytes have to be there
unfoldable pub number_at : Width → List ℕ → Read ℕ
number_at w bytes =
    if nat_lt (length bytes) (byte_len w) then Err Short else Ok (from_be_bytes w bytes, drop (byte_len w) bytes)

-- a part is a number; then its check is made
abbrev pub checked_number : Width → Check → List ℕ → Read ℕ
checked_number w check bytes = do
  n ← number_at w bytes
  unless (check n.0) (n.0, n.1)

-- one reading after another, which may depend on what the first one gave
abbrev pub followed : {A B : Type 0} → (List ℕ → Read A) → (A → List ℕ → Read B) → List ℕ → Read (A × B)
followed first second bytes = do
  a ← first bytes
  b ← second a.0 a.1
  Ok ((a.0, b.0), b.1)

infixr 5 ◌⨾◌
-- one reading after another
abbrev pub ◌⨾◌ : {A B : Type 0} → (List ℕ → Read A) → (List ℕ → Read B) → List ℕ → Read (A × B)
first ⨾ second = followed first (λ _. second)

-- what is made of the value that is read
abbrev pub made : {A B : Type 0} → (A → B) → (List ℕ → Read A) → List ℕ → Read B
made f read bytes = do
  x ← read bytes
  Ok (f x.0, x.1)

-- so many values, one after another: how one is read may depend on a number, which each value moves on
unfoldable pub many : {A : Type 0} → (ℕ → A → ℕ) → (ℕ → List ℕ → Read A) → ℕ → ℕ → List ℕ → Read (List A)
many next one zero s bytes = Ok ([], bytes)
many next one (suc count) s bytes = do
  first ← one s bytes
  others ← many next one count (next s first.0) first.1
  Ok (first.0 ∷ others.0, others.1)

-- the same behind their count, a number of this width
abbrev pub counted : {A : Type 0} → Width → Check → (ℕ → A → ℕ) → (ℕ → List ℕ → Read A) → ℕ → List ℕ → Read (List A)
counted w check next one s = made (λ x. x.1) (followed (checked_number w check) (λ count. many next one count s))

-- what a function returned, seen by view, is what reading gives
abbrev pub Gives : {X Y : Type 0} → (X → Y) → Result X ImageFault → Result Y ImageFault → Type 0
Gives view result read = MatchResult result (λ x. read ≡ Ok (view x)) (λ fault. read ≡ Err fault)

-- the fault of a reading, if it has one
abbrev pub fault_in : {A : Type 0} → Result A ImageFault → Option ImageFault
fault_in (Ok x) = None
fault_in (Err fault) = Some fault
