-- What two lists become, place by place. Ours.
use Rattle.std.specs.Prelude.{◌≡◌, ℕ, ◌<◌, ◌≤◌, List, length, get_or}

-- at each place the two things are, as a relation says, what two others were
pub record AreEach {A B : Type 0} (Become : A → B → A → B → Type 0) (olds : List A) (bs : List B) (xs : List A)
    (ys : List B) : Type 0 where
  pub first_len : length xs ≡ length olds
  pub second_len : length ys ≡ length bs
  pub each : (i : ℕ) (a : A) (b : B) → i < length olds
      → Become (get_or olds i a) (get_or bs i b) (get_or xs i a) (get_or ys i b)

-- so below a place, and from there on they are as they were
pub record AreEachBelow {A B : Type 0} (m : ℕ) (Become : A → B → A → B → Type 0) (olds : List A) (bs : List B)
    (xs : List A) (ys : List B) : Type 0 where
  pub first_len : length xs ≡ length olds
  pub second_len : length ys ≡ length bs
  pub each : (i : ℕ) (a : A) (b : B) → i < m → Become (get_or olds i a) (get_or bs i b) (get_or xs i a) (get_or ys i b)
  pub first_rest : (i : ℕ) (a : A) → m ≤ i → get_or xs i a ≡ get_or olds i a
  pub second_rest : (i : ℕ) (b : B) → m ≤ i → get_or ys i b ≡ get_or bs i b
