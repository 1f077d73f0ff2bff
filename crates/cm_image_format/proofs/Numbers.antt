-- Numbers as parts: their bytes, and what is read of bytes, at each width.
use Rattle.std.proofs.Common.{◌≡◌, ℕ, ◌+◌, ◌<◌, ◌≤◌, ◌^◌, Bool, true, false, List, [], ◌∷◌, ◌++◌, length, get_or, take}
use Rattle.std.proofs.Common.{drop, Ok, Err, refl, sym, ap, ◌∙◌, subst, inl, inr, arith, lit<, mod-eq_of_lt, nat_lt}
use Rattle.std.proofs.Common.{if◌then◌else◌}
use Rattle.std.specs.Int.{Width, w8, w16, w32, w64, byte_len, from_be_bytes}
use Rattle.std.proofs.lemmas.Bool.{cases_lt, le-ltb, ltb-false}
use Rattle.std.proofs.lemmas.List.{length-append, length-take-le, get_or-take, get_or_past, get_or-append-add}
use Rattle.std.proofs.lemmas.List.{length-take, take-append-drop}
use Rattle.std.proofs.lemmas.Nat.{from_be_bytes-to_be_bytes_2, from_be_bytes-to_be_bytes_4, from_be_bytes-to_be_bytes_8}
use Rattle.std.proofs.lemmas.Nat.{be_bytes_2, be_bytes_4, be_bytes_8}
use Rattle.cm_message.specs.Bytes.{number_bytes}
use Rattle.cm_image_format.specs.declared.fault.ImageFault.TheVariants.{Short}
use Rattle.cm_image_format.specs.Reading.{Read, number_at}
use Rattle.cm_image_format.specs.Laws.{AreBytes}

-- a text and a reading tell each other, of the values that are good
pub record Reads {A : Type 0} (Good : A → Type 0) (text : A → List ℕ) (read : List ℕ → Read A) : Type 0 where
  pub back : (x : A) (rest : List ℕ) → Good x → read (text x ++ rest) ≡ Ok (x, rest)
  pub only : (bytes rest : List ℕ) (x : A) → AreBytes bytes → read bytes ≡ Ok (x, rest)
      → (bytes ≡ text x ++ rest) × Good x

-- ---- bytes

pub AreBytes-rest : (front rest : List ℕ) → AreBytes (front ++ rest) → AreBytes rest
AreBytes-rest front rest are i = subst (λ (b : ℕ). b < 256) (get_or-append-add front rest i 0) (are (length front + i))

AreBytes-front : (bytes : List ℕ) (n : ℕ) → AreBytes bytes → (i : ℕ) → get_or (take n bytes) i 0 < 256
AreBytes-front bytes n are i = elim (cases_lt i n) [
  | inl inside ↦ rw (get_or-take n bytes i 0 inside) (are i)
  | inr past ↦ rw (get_or_past (take n bytes) i 0 (omega (arith, length-take n bytes))) (lit< tt)
]

-- ---- any width

number_back : (w : Width) (n : ℕ) (rest : List ℕ) → length (number_bytes w n) ≡ byte_len w
    → from_be_bytes w (number_bytes w n ++ rest) ≡ n → drop (byte_len w) (number_bytes w n ++ rest) ≡ rest
    → number_at w (number_bytes w n ++ rest) ≡ Ok (n, rest)
unfolding number_at
number_back w n rest long is after =
    let enough : nat_lt (length (number_bytes w n ++ rest)) (byte_len w) ≡ false =
    le-ltb _ _ (omega (arith, length-append (number_bytes w n) rest)) in
    rw (enough, is, after) refl

at_least : (b : Bool) (x y : ℕ × List ℕ) → ◌≡◌ {A = Read ℕ} (if b then Err Short else Ok x) (Ok y)
    → (b ≡ false) × (x ≡ y)
at_least true x y is = absurd (cc)
at_least false x y is = (refl, cc)

-- what a number that is read tells of the bytes
record IsRead (w : Width) (bytes rest : List ℕ) (n : ℕ) : Type 0 where
  long : byte_len w ≤ length bytes
  is : n ≡ from_be_bytes w bytes
  after : drop (byte_len w) bytes ≡ rest

number_only : (w : Width) (bytes rest : List ℕ) (n : ℕ) → number_at w bytes ≡ Ok (n, rest) → IsRead w bytes rest n
unfolding number_at
number_only w bytes rest n read =
    let both = at_least _ (from_be_bytes w bytes, drop (byte_len w) bytes) (n, rest) read in
    record {
      long = ltb-false _ _ both.0;
      is = sym (ap (λ (p : ℕ × List ℕ). p.0) both.1);
      after = ap (λ (p : ℕ × List ℕ). p.1) both.1;
    }

joined : (k : ℕ) (bytes rest text : List ℕ) → drop k bytes ≡ rest → text ≡ take k bytes → bytes ≡ text ++ rest
joined k bytes rest text after is = sym (take-append-drop k bytes) ∙ (λ i. sym is i ++ after i)

-- ---- one byte

abbrev pub Fits8 : ℕ → Type 0
Fits8 n = n < 2 ^ 8

one_byte : (bytes : List ℕ) (n : ℕ) → 1 ≤ length bytes → AreBytes bytes → n ≡ from_be_bytes w8 bytes
    → (number_bytes w8 n ≡ take 1 bytes) × Fits8 n
unfolding number_bytes
one_byte [] n long are is = absurd (omega (arith, long))
one_byte (a ∷ rest) n long are is =
    let small : n < 256 = rw is (are 0) in
    (ap (λ (b : ℕ). b ∷ []) (mod-eq_of_lt small ∙ is), small)

pub number_8 : Reads Fits8 (number_bytes w8) (number_at w8)
unfolding number_bytes
number_8 = record {
  back = λ n rest fits. number_back w8 n rest refl (mod-eq_of_lt fits) refl;
  only = λ bytes rest n are read.
      let r = number_only w8 bytes rest n read in
      let told = one_byte bytes n r.long are r.is in
      (joined 1 bytes rest (number_bytes w8 n) r.after told.0, told.1);
}

-- ---- two, four and eight

abbrev pub Fits16 : ℕ → Type 0
Fits16 n = n < 2 ^ 16

abbrev pub Fits32 : ℕ → Type 0
Fits32 n = n < 2 ^ 32

abbrev pub Fits64 : ℕ → Type 0
Fits64 n = n < 2 ^ 64

front_2 : (bytes : List ℕ) → from_be_bytes w16 bytes ≡ from_be_bytes w16 (take 2 bytes)
front_2 [] = refl
front_2 (a ∷ []) = refl
front_2 (a ∷ b ∷ rest) = refl

front_4 : (bytes : List ℕ) → from_be_bytes w32 bytes ≡ from_be_bytes w32 (take 4 bytes)
front_4 [] = refl
front_4 (a ∷ []) = refl
front_4 (a ∷ b ∷ []) = refl
front_4 (a ∷ b ∷ c ∷ []) = refl
front_4 (a ∷ b ∷ c ∷ d ∷ rest) = refl

front_8 : (bytes : List ℕ) → from_be_bytes w64 bytes ≡ from_be_bytes w64 (take 8 bytes)
front_8 [] = refl
front_8 (a ∷ []) = refl
front_8 (a ∷ b ∷ []) = refl
front_8 (a ∷ b ∷ c ∷ []) = refl
front_8 (a ∷ b ∷ c ∷ d ∷ []) = refl
front_8 (a ∷ b ∷ c ∷ d ∷ e ∷ []) = refl
front_8 (a ∷ b ∷ c ∷ d ∷ e ∷ f ∷ []) = refl
front_8 (a ∷ b ∷ c ∷ d ∷ e ∷ f ∷ g ∷ []) = refl
front_8 (a ∷ b ∷ c ∷ d ∷ e ∷ f ∷ g ∷ h ∷ rest) = refl

fits_2 : (bytes : List ℕ) (n : ℕ) → AreBytes bytes → n ≡ from_be_bytes w16 bytes → n < 2 ^ 16
fits_2 bytes n are is = omega (arith, is, are 0, are 1)

fits_4 : (bytes : List ℕ) (n : ℕ) → AreBytes bytes → n ≡ from_be_bytes w32 bytes → n < 2 ^ 32
fits_4 bytes n are is = omega (arith, is, are 0, are 1, are 2, are 3)

fits_8 : (bytes : List ℕ) (n : ℕ) → AreBytes bytes → n ≡ from_be_bytes w64 bytes → n < 2 ^ 64
fits_8 bytes n are is = omega (arith, is, are 0, are 1, are 2, are 3, are 4, are 5, are 6, are 7)

pub number_16 : Reads Fits16 (number_bytes w16) (number_at w16)
unfolding number_bytes
number_16 = record {
  back = λ n rest fits. number_back w16 n rest refl (from_be_bytes-to_be_bytes_2 n fits) refl;
  only = λ bytes rest n are read.
      let r = number_only w16 bytes rest n read in
      let long : length (take 2 bytes) ≡ 2 = length-take-le 2 bytes r.long in (
        joined 2 bytes rest (number_bytes w16 n) r.after
            (be_bytes_2 (take 2 bytes) n long (AreBytes-front bytes 2 are) (r.is ∙ front_2 bytes)),
        fits_2 bytes n are r.is,
      );
}

pub number_32 : Reads Fits32 (number_bytes w32) (number_at w32)
unfolding number_bytes
number_32 = record {
  back = λ n rest fits. number_back w32 n rest refl (from_be_bytes-to_be_bytes_4 n fits) refl;
  only = λ bytes rest n are read.
      let r = number_only w32 bytes rest n read in
      let long : length (take 4 bytes) ≡ 4 = length-take-le 4 bytes r.long in (
        joined 4 bytes rest (number_bytes w32 n) r.after
            (be_bytes_4 (take 4 bytes) n long (AreBytes-front bytes 4 are) (r.is ∙ front_4 bytes)),
        fits_4 bytes n are r.is,
      );
}

pub number_64 : Reads Fits64 (number_bytes w64) (number_at w64)
unfolding number_bytes
number_64 = record {
  back = λ n rest fits. number_back w64 n rest refl (from_be_bytes-to_be_bytes_8 n fits) refl;
  only = λ bytes rest n are read.
      let r = number_only w64 bytes rest n read in
      let long : length (take 8 bytes) ≡ 8 = length-take-le 8 bytes r.long in (
        joined 8 bytes rest (number_bytes w64 n) r.after
            (be_bytes_8 (take 8 bytes) n long (AreBytes-front bytes 8 are) (r.is ∙ front_8 bytes)),
        fits_8 bytes n are r.is,
      );
}
