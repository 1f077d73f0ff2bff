-- Forms of parts: what is written is what is read, for each way of putting parts together.
use Rattle.std.proofs.Common.{◌≡◌, ℕ, zero, suc, Bool, true, false, List, [], ◌∷◌, ◌++◌, length, Option, Some, None}
use Rattle.std.proofs.Common.{Result, Ok, Err, refl, sym, ap, ◌∙◌, subst, arith, append_assoc, if◌then◌else◌}
use Rattle.std.specs.Int.{Width}
use Rattle.std.specs.List.{flat_map}
use Rattle.cm_message.specs.Bytes.{number_bytes}
use Rattle.cm_image_format.specs.declared.fault.ImageFault.{ImageFault}
use Rattle.cm_image_format.specs.Reading.{◌>>=◌, Read, Check, unless, number_at, checked_number, followed, made, many, counted}
use Rattle.cm_image_format.specs.Laws.{AreBytes}
use Rattle.cm_image_format.proofs.Numbers.{Reads, AreBytes-rest}

-- ---- one step after another

-- a step that gave a value, after one that gave one
pub bound : {A B : Type 0} (r : Result A ImageFault) (f : A → Result B ImageFault) (y : B) → (r >>= f) ≡ Ok y
    → (x : A) × (r ≡ Ok x) × (f x ≡ Ok y)
bound (Ok x) f y is = (x, refl, is)
bound (Err fault) f y is = absurd (cc)

pub same_ok : {A : Type 0} (x y : A) → ◌≡◌ {A = Result A ImageFault} (Ok x) (Ok y) → x ≡ y
same_ok x y is = cc

passed : {A : Type 0} (fault : Option ImageFault) (x y : A) → unless fault x ≡ Ok y → (fault ≡ None) × (x ≡ y)
passed None x y is = (refl, cc)
passed (Some fault) x y is = absurd (cc)

-- ---- a check

pub must_pass : (fault : ImageFault) (b : Bool) → b ≡ true
    → ◌≡◌ {A = Option ImageFault} (if b then None else Some fault) None
must_pass fault b is = rw is refl

pub must_hold : (fault : ImageFault) (b : Bool)
    → ◌≡◌ {A = Option ImageFault} (if b then None else Some fault) None → b ≡ true
must_hold fault true is = refl
must_hold fault false is = absurd (cc)

-- ---- a part

pub Reads-checked_number : (w : Width) (check : Check) (Fits : ℕ → Type 0) → Reads Fits (number_bytes w) (number_at w)
    → Reads (λ n. Fits n × (check n ≡ None)) (number_bytes w) (checked_number w check)
Reads-checked_number w check Fits inner = record {
  back = λ n rest good. rw (inner.back n rest good.0, good.1) refl;
  only = λ bytes rest n are read.
      let first = bound (number_at w bytes) (λ x. unless (check x.0) (x.0, x.1)) (n, rest) read in
      let checked = passed (check first.0.0) (first.0.0, first.0.1) (n, rest) first.2 in
      let told = inner.only bytes first.0.1 first.0.0 are first.1 in
      subst (λ (y : ℕ × List ℕ). (bytes ≡ number_bytes w y.0 ++ y.1) × (Fits y.0 × (check y.0 ≡ None))) checked.1
      (told.0, (told.1, checked.0));
}

-- ---- one after another

pub Reads-followed : {A B : Type 0} (GA : A → Type 0) (GB : A → B → Type 0) (ta : A → List ℕ) (tb : A → B → List ℕ)
    (ra : List ℕ → Read A) (rb : A → List ℕ → Read B)
    → Reads GA ta ra → ((a : A) → GA a → Reads (GB a) (tb a) (rb a))
    → Reads (λ (p : A × B). GA p.0 × GB p.0 p.1) (λ (p : A × B). ta p.0 ++ tb p.0 p.1) (followed ra rb)
Reads-followed {A} {B} GA GB ta tb ra rb first second = record {
  back = λ p rest good. rw (
    append_assoc (ta p.0) (tb p.0 p.1) rest,
    first.back p.0 (tb p.0 p.1 ++ rest) good.0,
    (second p.0 good.0).back p.1 rest good.1,
  ) refl;
  only = λ bytes rest p are read.
      let a = bound (ra bytes) (λ a. rb a.0 a.1 >>= (λ b. Ok ((a.0, b.0), b.1))) (p, rest) read in
      let front = first.only bytes a.0.1 a.0.0 are a.1 in
      let b = bound (rb a.0.0 a.0.1) (λ b. Ok ((a.0.0, b.0), b.1)) (p, rest) a.2 in
      let behind =
      (second a.0.0 front.1).only a.0.1 b.0.1 b.0.0 (AreBytes-rest (ta a.0.0) a.0.1 (subst AreBytes front.0 are)) b.1 in
      subst (λ (y : (A × B) × List ℕ). (bytes ≡ (ta y.0.0 ++ tb y.0.0 y.0.1) ++ y.1) × (GA y.0.0 × GB y.0.0 y.0.1))
      (same_ok ((a.0.0, b.0.0), b.0.1) (p, rest) b.2) (
        front.0 ∙ ap (λ z. ta a.0.0 ++ z) behind.0 ∙ sym (append_assoc (ta a.0.0) (tb a.0.0 b.0.0) b.0.1),
        (front.1, behind.1),
      );
}

-- ---- what is made of a value, and the value that it is made of

pub Reads-made : {A B : Type 0} (GA : A → Type 0) (GB : B → Type 0) (ta : A → List ℕ) (tb : B → List ℕ) (f : A → B)
    (g : B → A) (ra : List ℕ → Read A)
    → Reads GA ta ra → ((b : B) → GB b → f (g b) ≡ b) → ((b : B) → GB b → GA (g b)) → ((b : B) → GB b → tb b ≡ ta (g b))
    → ((a : A) → GA a → GB (f a) × (ta a ≡ tb (f a)))
    → Reads GB tb (made f ra)
Reads-made {A} {B} GA GB ta tb f g ra inner round into text out = record {
  back = λ b rest good. rw (text b good, inner.back (g b) rest (into b good), round b good) refl;
  only = λ bytes rest b are read.
      let x = bound (ra bytes) (λ x. Ok (f x.0, x.1)) (b, rest) read in
      let told = inner.only bytes x.0.1 x.0.0 are x.1 in
      let made_of = out x.0.0 told.1 in
      subst (λ (y : B × List ℕ). (bytes ≡ tb y.0 ++ y.1) × GB y.0) (same_ok (f x.0.0, x.0.1) (b, rest) x.2)
      (told.0 ∙ ap (λ z. z ++ x.0.1) made_of.1, made_of.0);
}

-- ---- so many values

-- each is good at its number
abbrev pub AllFrom : {A : Type 0} → (ℕ → A → ℕ) → (ℕ → A → Type 0) → ℕ → List A → Type 0
AllFrom next Good s [] = Unit {0}
AllFrom next Good s (x ∷ xs) = Good s x × AllFrom next Good (next s x) xs

many_back : {A : Type 0} (next : ℕ → A → ℕ) (Good : ℕ → A → Type 0) (text : A → List ℕ) (one : ℕ → List ℕ → Read A)
    → ((s : ℕ) → Reads (Good s) text (one s))
    → (count s : ℕ) (xs : List A) (rest : List ℕ) → length xs ≡ count → AllFrom next Good s xs
    → many next one count s (flat_map text xs ++ rest) ≡ Ok (xs, rest)
unfolding many
many_back next Good text one each zero s [] rest long good = refl
many_back next Good text one each zero s (x ∷ xs) rest long good = absurd (omega (arith, long))
many_back next Good text one each (suc count) s [] rest long good = absurd (omega (arith, long))
many_back next Good text one each (suc count) s (x ∷ xs) rest long good =
    rw (
      append_assoc (text x) (flat_map text xs) rest,
      (each s).back x (flat_map text xs ++ rest) good.0,
      many_back next Good text one each count (next s x) xs rest (omega (arith, long)) good.1,
    ) refl

many_only : {A : Type 0} (next : ℕ → A → ℕ) (Good : ℕ → A → Type 0) (text : A → List ℕ) (one : ℕ → List ℕ → Read A)
    → ((s : ℕ) → Reads (Good s) text (one s))
    → (count s : ℕ) (bytes rest : List ℕ) (xs : List A) → AreBytes bytes → many next one count s bytes ≡ Ok (xs, rest)
    → (bytes ≡ flat_map text xs ++ rest) × ((length xs ≡ count) × AllFrom next Good s xs)
unfolding many
many_only {A} next Good text one each zero s bytes rest xs are read =
    subst (λ (y : List A × List ℕ). (bytes ≡ flat_map text y.0 ++ y.1) × ((length y.0 ≡ 0) × AllFrom next Good s y.0))
    (same_ok ([], bytes) (xs, rest) read) (refl, (refl, tt))
many_only {A} next Good text one each (suc count) s bytes rest xs are read =
    let a =
    bound (one s bytes) (λ a. many next one count (next s a.0) a.1 >>= (λ b. Ok (a.0 ∷ b.0, b.1))) (xs, rest) read in
    let front = (each s).only bytes a.0.1 a.0.0 are a.1 in
    let b = bound (many next one count (next s a.0.0) a.0.1) (λ b. Ok (a.0.0 ∷ b.0, b.1)) (xs, rest) a.2 in
    let behind = many_only next Good text one each count (next s a.0.0) a.0.1 b.0.1 b.0.0
    (AreBytes-rest (text a.0.0) a.0.1 (subst AreBytes front.0 are)) b.1 in
    subst (λ (y : List A × List ℕ). (bytes ≡ flat_map text y.0 ++ y.1)
    × ((length y.0 ≡ suc count) × AllFrom next Good s y.0)) (same_ok (a.0.0 ∷ b.0.0, b.0.1) (xs, rest) b.2) (
      front.0 ∙ ap (λ z. text a.0.0 ++ z) behind.0 ∙ sym (append_assoc (text a.0.0) (flat_map text b.0.0) b.0.1),
      (ap suc behind.1.0, (front.1, behind.1.1)),
    )

pub Reads-many : {A : Type 0} (next : ℕ → A → ℕ) (Good : ℕ → A → Type 0) (text : A → List ℕ) (one : ℕ → List ℕ → Read A)
    → ((s : ℕ) → Reads (Good s) text (one s))
    → (count s : ℕ) → Reads (λ xs. (length xs ≡ count) × AllFrom next Good s xs) (flat_map text) (many next one count s)
Reads-many next Good text one each count s = record {
  back = λ xs rest good. many_back next Good text one each count s xs rest good.0 good.1;
  only = λ bytes rest xs are read. many_only next Good text one each count s bytes rest xs are read;
}

-- ---- the same behind their count

pub Reads-counted : {A : Type 0} (w : Width) (check : Check) (Fits : ℕ → Type 0) (next : ℕ → A → ℕ)
    (Good : ℕ → A → Type 0) (text : A → List ℕ) (one : ℕ → List ℕ → Read A)
    → Reads Fits (number_bytes w) (number_at w) → ((s : ℕ) → Reads (Good s) text (one s)) → (s : ℕ)
    → Reads (λ xs. (Fits (length xs) × (check (length xs) ≡ None)) × AllFrom next Good s xs)
    (λ xs. number_bytes w (length xs) ++ flat_map text xs) (counted w check next one s)
Reads-counted {A} w check Fits next Good text one inner each s =
    Reads-made (λ (p : ℕ × List A). (Fits p.0 × (check p.0 ≡ None)) × ((length p.1 ≡ p.0) × AllFrom next Good s p.1))
    (λ (xs : List A). (Fits (length xs) × (check (length xs) ≡ None)) × AllFrom next Good s xs)
    (λ (p : ℕ × List A). number_bytes w p.0 ++ flat_map text p.1) (λ (xs : List A). number_bytes w (length xs) ++ flat_map text xs)
    (λ (p : ℕ × List A). p.1) (λ (xs : List A). (length xs, xs))
    (followed (checked_number w check) (λ count. many next one count s))
    (Reads-followed (λ n. Fits n × (check n ≡ None)) (λ n (xs : List A). (length xs ≡ n) × AllFrom next Good s xs)
    (number_bytes w) (λ n. flat_map text) (checked_number w check) (λ count. many next one count s)
    (Reads-checked_number w check Fits inner) (λ n good. Reads-many next Good text one each n s))
    (λ xs good. refl) (λ xs good. (good.0, (refl, good.1))) (λ xs good. refl)
    (λ p good. (
      (subst (λ (n : ℕ). Fits n × (check n ≡ None)) (sym good.1.0) good.0, good.1.1),
      ap (λ (n : ℕ). number_bytes w n ++ flat_map text p.1) (sym good.1.0),
    ))
