-- What is read of bytes is read of them where more stands behind them, and ends at the same place.
use Rattle.std.proofs.Common.{◌≡◌, ℕ, zero, suc, ◌+◌, ◌-◌, ◌<◌, ◌≤◌, Bool, true, false, List, [], ◌∷◌, ◌++◌}
use Rattle.std.proofs.Common.{length, get_or, drop, take, Option, Some, None, Result, Ok, Err, refl, sym, ap, ◌∙◌}
use Rattle.std.proofs.Common.{arith, nat_lt, append_assoc, if◌then◌else◌, ◌==◌, lit<}
use Rattle.std.specs.Int.{Width, w8, w16, w32, w64, byte_len, byte_worth, from_be_bytes, sum_through}
use Rattle.std.proofs.lemmas.Bool.{le-ltb, ltb-false}
use Rattle.std.proofs.lemmas.List.{length-append, drop-append-le, get_or_append_left, take-append-drop}
use Rattle.std.proofs.Math.Seq.{drop-append_seam}
use Rattle.cm_image_format.specs.declared.fault.ImageFault.{ImageFault}
use Rattle.cm_image_format.specs.declared.fault.ImageFault.TheVariants.{Short}
use Rattle.cm_image_format.specs.Reading.{◌>>=◌, Read, Check, unless, number_at, checked_number, followed, ◌⨾◌, made, many, counted}
use Rattle.cm_image_format.specs.Header.{Head, is_dimension, is_room, shape_part, header_part}
use Rattle.cm_image_format.specs.Cuts.{cut_part, cuts_part, routing_part}
use Rattle.cm_image_format.specs.Image.{flag_part, listed_part, message_part, flags_part, memory_part, messages_part}
use Rattle.cm_image_format.specs.Image.{chip_part}
use Rattle.cm_image_format.specs.Whole.{read_shape}

pub record GoesOn {A : Type 0} (read : List ℕ → Read A) : Type 0 where
  pub on : (bytes more rest : List ℕ) (x : A) → read bytes ≡ Ok (x, rest) → read (bytes ++ more) ≡ Ok (x, rest ++ more)
  pub behind : (bytes rest : List ℕ) (x : A) → read bytes ≡ Ok (x, rest) → (front : List ℕ) × (bytes ≡ front ++ rest)

-- ---- what a step was made of

bound : {A B : Type 0} (r : Result A ImageFault) (f : A → Result B ImageFault) (y : B) → (r >>= f) ≡ Ok y
    → (x : A) × (r ≡ Ok x) × (f x ≡ Ok y)
bound (Ok x) f y is = (x, refl, is)
bound (Err fault) f y is = absurd (cc)

same_ok : {A : Type 0} (x y : A) → ◌≡◌ {A = Result A ImageFault} (Ok x) (Ok y) → x ≡ y
same_ok x y is = cc

-- ---- a number

same_sum : (f g : ℕ → ℕ) (k : ℕ) → ((i : ℕ) → i ≤ k → f i ≡ g i) → sum_through f k ≡ sum_through g k
same_sum f g zero same = same 0 (omega arith)
same_sum f g (suc k) same =
    (λ i. same_sum f g k (λ j h. same j (omega arith)) i + same (suc k) (omega arith) i)

same_number : (w : Width) (bytes more : List ℕ) → 0 < byte_len w → byte_len w ≤ length bytes
    → from_be_bytes w (bytes ++ more) ≡ from_be_bytes w bytes
same_number w bytes more some long =
    same_sum (λ i. byte_worth (byte_len w - 1 - i) (get_or (bytes ++ more) i 0))
    (λ i. byte_worth (byte_len w - 1 - i) (get_or bytes i 0)) (byte_len w - 1)
    (λ i h. ap (λ (b : ℕ). byte_worth (byte_len w - 1 - i) b) (get_or_append_left bytes more 0 i (omega arith)))

at_least : (b : Bool) (x y : ℕ × List ℕ) → ◌≡◌ {A = Read ℕ} (if b then Err Short else Ok x) (Ok y)
    → (b ≡ false) × (x ≡ y)
at_least true x y is = absurd (cc)
at_least false x y is = (refl, cc)

goes_on-number : (w : Width) → 0 < byte_len w → GoesOn (number_at w)
unfolding number_at
goes_on-number w some = record {
  on = λ bytes more rest n is.
      let both = at_least (nat_lt (length bytes) (byte_len w)) (from_be_bytes w bytes, drop (byte_len w) bytes) (n, rest) is in
      let long : byte_len w ≤ length bytes = ltb-false _ _ both.0 in
      let enough : nat_lt (length (bytes ++ more)) (byte_len w) ≡ false =
      le-ltb _ _ (omega (arith, length-append bytes more, long)) in
      rw (enough, same_number w bytes more some long, drop-append-le (byte_len w) bytes more long)
      (ap (λ (p : ℕ × List ℕ). Ok (p.0, p.1 ++ more)) both.1);
  behind = λ bytes rest n is.
      let both = at_least (nat_lt (length bytes) (byte_len w)) (from_be_bytes w bytes, drop (byte_len w) bytes) (n, rest) is in (
        take (byte_len w) bytes,
        sym (take-append-drop (byte_len w) bytes)
            ∙ ap (λ (p : ℕ × List ℕ). take (byte_len w) bytes ++ p.1) both.1,
      );
}

-- ---- a part

passed : {A : Type 0} (fault : Option ImageFault) (x y : A) → unless fault x ≡ Ok y → (fault ≡ None) × (x ≡ y)
passed None x y is = (refl, cc)
passed (Some fault) x y is = absurd (cc)

pub goes_on-checked_number : (w : Width) (check : Check) → 0 < byte_len w → GoesOn (checked_number w check)
goes_on-checked_number w check some = record {
  on = λ bytes more rest n is.
      let first = bound (number_at w bytes) (λ x. unless (check x.0) (x.0, x.1)) (n, rest) is in
      let checked = passed (check first.0.0) (first.0.0, first.0.1) (n, rest) first.2 in
      rw ((goes_on-number w some).on bytes more first.0.1 first.0.0 first.1, checked.0)
      (ap (λ (p : ℕ × List ℕ). Ok (p.0, p.1 ++ more)) checked.1);
  behind = λ bytes rest n is.
      let first = bound (number_at w bytes) (λ x. unless (check x.0) (x.0, x.1)) (n, rest) is in
      let checked = passed (check first.0.0) (first.0.0, first.0.1) (n, rest) first.2 in
      let front = (goes_on-number w some).behind bytes first.0.1 first.0.0 first.1 in
      (front.0, front.1 ∙ ap (λ (p : ℕ × List ℕ). front.0 ++ p.1) checked.1);
}

-- ---- one after another

pub goes_on-followed : {A B : Type 0} (first : List ℕ → Read A) (second : A → List ℕ → Read B) → GoesOn first
    → ((a : A) → GoesOn (second a)) → GoesOn (followed first second)
goes_on-followed {A} {B} first second one two = record {
  on = λ bytes more rest p is.
      let a = bound (first bytes) (λ a. second a.0 a.1 >>= (λ b. Ok ((a.0, b.0), b.1))) (p, rest) is in
      let b = bound (second a.0.0 a.0.1) (λ b. Ok ((a.0.0, b.0), b.1)) (p, rest) a.2 in
      rw (one.on bytes more a.0.1 a.0.0 a.1, (two a.0.0).on a.0.1 more b.0.1 b.0.0 b.1)
      (ap (λ (q : (A × B) × List ℕ). Ok (q.0, q.1 ++ more)) (same_ok ((a.0.0, b.0.0), b.0.1) (p, rest) b.2));
  behind = λ bytes rest p is.
      let a = bound (first bytes) (λ a. second a.0 a.1 >>= (λ b. Ok ((a.0, b.0), b.1))) (p, rest) is in
      let b = bound (second a.0.0 a.0.1) (λ b. Ok ((a.0.0, b.0), b.1)) (p, rest) a.2 in
      let x = one.behind bytes a.0.1 a.0.0 a.1 in
      let y = (two a.0.0).behind a.0.1 b.0.1 b.0.0 b.1 in
      let same : ((a.0.0, b.0.0), b.0.1) ≡ (p, rest) = same_ok ((a.0.0, b.0.0), b.0.1) (p, rest) b.2 in (
        x.0 ++ y.0,
        x.1 ∙ ap (λ (r : List ℕ). x.0 ++ r) (y.1 ∙ ap (λ (q : (A × B) × List ℕ). y.0 ++ q.1) same)
            ∙ sym (append_assoc x.0 y.0 rest),
      );
}

pub goes_on-made : {A B : Type 0} (f : A → B) (read : List ℕ → Read A) → GoesOn read → GoesOn (made f read)
goes_on-made {A} {B} f read one = record {
  on = λ bytes more rest y is.
      let x = bound (read bytes) (λ x. Ok (f x.0, x.1)) (y, rest) is in
      rw (one.on bytes more x.0.1 x.0.0 x.1)
      (ap (λ (q : B × List ℕ). Ok (q.0, q.1 ++ more)) (same_ok (f x.0.0, x.0.1) (y, rest) x.2));
  behind = λ bytes rest y is.
      let x = bound (read bytes) (λ x. Ok (f x.0, x.1)) (y, rest) is in
      let front = one.behind bytes x.0.1 x.0.0 x.1 in
      let same : (f x.0.0, x.0.1) ≡ (y, rest) = same_ok (f x.0.0, x.0.1) (y, rest) x.2 in
      (front.0, front.1 ∙ ap (λ (q : B × List ℕ). front.0 ++ q.1) same);
}

-- ---- so many values

many_on : {A : Type 0} (next : ℕ → A → ℕ) (one : ℕ → List ℕ → Read A) → ((s : ℕ) → GoesOn (one s))
    → (count s : ℕ) (bytes more rest : List ℕ) (xs : List A) → many next one count s bytes ≡ Ok (xs, rest)
    → many next one count s (bytes ++ more) ≡ Ok (xs, rest ++ more)
unfolding many
many_on {A} next one each zero s bytes more rest xs is =
    ap (λ (q : List A × List ℕ). Ok (q.0, q.1 ++ more)) (same_ok ([], bytes) (xs, rest) is)
many_on {A} next one each (suc count) s bytes more rest xs is =
    let a = bound (one s bytes) (λ a. many next one count (next s a.0) a.1 >>= (λ b. Ok (a.0 ∷ b.0, b.1))) (xs, rest)
    is in
    let b = bound (many next one count (next s a.0.0) a.0.1) (λ b. Ok (a.0.0 ∷ b.0, b.1)) (xs, rest) a.2 in
    rw (
      (each s).on bytes more a.0.1 a.0.0 a.1,
      many_on next one each count (next s a.0.0) a.0.1 more b.0.1 b.0.0 b.1,
    )
    (ap (λ (q : List A × List ℕ). Ok (q.0, q.1 ++ more)) (same_ok (a.0.0 ∷ b.0.0, b.0.1) (xs, rest) b.2))

many_behind : {A : Type 0} (next : ℕ → A → ℕ) (one : ℕ → List ℕ → Read A) → ((s : ℕ) → GoesOn (one s))
    → (count s : ℕ) (bytes rest : List ℕ) (xs : List A) → many next one count s bytes ≡ Ok (xs, rest)
    → (front : List ℕ) × (bytes ≡ front ++ rest)
unfolding many
many_behind {A} next one each zero s bytes rest xs is =
    ([], ap (λ (q : List A × List ℕ). q.1) (same_ok ([], bytes) (xs, rest) is))
many_behind {A} next one each (suc count) s bytes rest xs is =
    let a = bound (one s bytes) (λ a. many next one count (next s a.0) a.1 >>= (λ b. Ok (a.0 ∷ b.0, b.1))) (xs, rest)
    is in
    let b = bound (many next one count (next s a.0.0) a.0.1) (λ b. Ok (a.0.0 ∷ b.0, b.1)) (xs, rest) a.2 in
    let x = (each s).behind bytes a.0.1 a.0.0 a.1 in
    let y = many_behind next one each count (next s a.0.0) a.0.1 b.0.1 b.0.0 b.1 in
    let same : (a.0.0 ∷ b.0.0, b.0.1) ≡ (xs, rest) = same_ok (a.0.0 ∷ b.0.0, b.0.1) (xs, rest) b.2 in (
      x.0 ++ y.0,
      x.1 ∙ ap (λ (r : List ℕ). x.0 ++ r) (y.1 ∙ ap (λ (q : List A × List ℕ). y.0 ++ q.1) same)
          ∙ sym (append_assoc x.0 y.0 rest),
    )

pub goes_on-many : {A : Type 0} (next : ℕ → A → ℕ) (one : ℕ → List ℕ → Read A) → ((s : ℕ) → GoesOn (one s))
    → (count s : ℕ) → GoesOn (many next one count s)
goes_on-many next one each count s = record {
  on = many_on next one each count s;
  behind = many_behind next one each count s;
}

pub goes_on-counted : {A : Type 0} (w : Width) (check : Check) (next : ℕ → A → ℕ) (one : ℕ → List ℕ → Read A)
    → 0 < byte_len w → ((s : ℕ) → GoesOn (one s)) → (s : ℕ) → GoesOn (counted w check next one s)
goes_on-counted {A} w check next one some each s =
    goes_on-made (λ x. x.1) (followed (checked_number w check) (λ count. many next one count s))
    (goes_on-followed (checked_number w check) (λ count. many next one count s) (goes_on-checked_number w check some)
    (λ count. goes_on-many next one each count s))

pub goes_on-next : {A B : Type 0} (first : List ℕ → Read A) (second : List ℕ → Read B) → GoesOn first → GoesOn second
    → GoesOn (first ⨾ second)
goes_on-next first second one two = goes_on-followed first (λ _. second) one (λ _. two)

-- ---- the parts of an image

listed_goes_on : (least : ℕ) → GoesOn (listed_part least)
listed_goes_on least =
    goes_on-made _ _ (goes_on-next _ _ (goes_on-checked_number w16 _ (lit< tt)) (goes_on-checked_number w16 _ (lit< tt)))

message_goes_on : (n clock : ℕ) → GoesOn (message_part n clock)
message_goes_on n clock =
    goes_on-made _ _ (goes_on-next _ _ (goes_on-checked_number w16 _ (lit< tt))
    (goes_on-next _ _ (goes_on-checked_number w8 _ (lit< tt))
    (goes_on-next _ _ (goes_on-number w32 (lit< tt))
    (goes_on-next _ _ (goes_on-checked_number w16 _ (lit< tt))
    (goes_on-next _ _ (goes_on-checked_number w8 _ (lit< tt)) (goes_on-checked_number w64 _ (lit< tt)))))))

pub chip_goes_on : (n cap clock : ℕ) → GoesOn (chip_part n cap clock)
unfolding chip_part
chip_goes_on n cap clock =
    goes_on-made _ _ (goes_on-next flags_part (memory_part ⨾ messages_part n cap clock)
    (goes_on-many _ flag_part (λ f. goes_on-checked_number w16 _ (lit< tt)) 16 0)
    (goes_on-next memory_part (messages_part n cap clock)
    (goes_on-counted w16 _ _ listed_part (lit< tt) listed_goes_on 0)
    (goes_on-counted w8 _ _ (λ i. message_part n clock) (lit< tt) (λ i. message_goes_on n clock) 0)))

shape_goes_on : (dimension room : ℕ → Bool) → GoesOn (shape_part dimension room)
shape_goes_on dimension room =
    goes_on-made _ _ (goes_on-next _ _ (goes_on-checked_number w32 _ (lit< tt))
    (goes_on-followed _ _ (goes_on-checked_number w8 _ (lit< tt))
    (λ version. goes_on-next _ _ (goes_on-checked_number w8 _ (lit< tt))
    (goes_on-next _ _ (goes_on-checked_number w8 _ (lit< tt)) (goes_on-checked_number w8 _ (lit< tt))))))

pub header_goes_on : (n cap : ℕ) → GoesOn (header_part n cap)
header_goes_on n cap = goes_on-next _ _ (shape_goes_on _ _) (goes_on-checked_number w64 _ (lit< tt))

cut_goes_on : (n least : ℕ) → GoesOn (cut_part n least)
cut_goes_on n least =
    goes_on-made _ _ (goes_on-followed _ _ (goes_on-checked_number w16 _ (lit< tt)) (λ chip. goes_on-checked_number w8 _ (lit< tt)))

either_goes_on : {A : Type 0} (b : Bool) (none : A) (read : List ℕ → Read A) → GoesOn read
    → GoesOn (λ bytes. if b then Ok (none, bytes) else read bytes)
either_goes_on {A} true none read one = record {
  on = λ bytes more rest x is.
      ap (λ (q : A × List ℕ). Ok (q.0, q.1 ++ more)) (same_ok (none, bytes) (x, rest) is);
  behind = λ bytes rest x is. ([], ap (λ (q : A × List ℕ). q.1) (same_ok (none, bytes) (x, rest) is));
}
either_goes_on false none read one = one

pub routing_goes_on : (n : ℕ) (head : Head) → GoesOn (routing_part n head)
routing_goes_on n head =
    goes_on-made _ (cuts_part head.version n head.rule) (either_goes_on (head.version == 1) [] _
    (goes_on-counted w16 _ _ (cut_part n) (lit< tt) (cut_goes_on n) 0))

-- the shape of bytes is that of all that begin so
pub shape_on : (bytes more : List ℕ) (shape : ℕ × ℕ) → read_shape bytes ≡ Ok shape
    → read_shape (bytes ++ more) ≡ Ok shape
unfolding read_shape
shape_on bytes more shape is =
    let head = bound (shape_part is_dimension is_room bytes) (λ s. Ok (s.0.dimension, s.0.room)) shape is in
    rw ((shape_goes_on is_dimension is_room).on bytes more head.0.1 head.0.0 head.1) head.2

-- the bytes behind what was read are the last of all
pub last_bytes : {A : Type 0} (read : List ℕ → Read A) (bytes rest : List ℕ) (x : A) → GoesOn read
    → read bytes ≡ Ok (x, rest) → (length rest ≤ length bytes) × (rest ≡ drop (length bytes - length rest) bytes)
last_bytes read bytes rest x goes is =
    let front = goes.behind bytes rest x is in
    let long : length bytes ≡ length front.0 + length rest = ap length front.1 ∙ length-append front.0 rest in
    let over : length bytes - length rest ≡ length front.0 = omega (arith, long) in (
      omega (arith, long),
      sym ((λ i. drop (over i) (front.1 i)) ∙ drop-append_seam front.0 rest),
    )
