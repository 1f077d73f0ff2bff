-- Any loop that reads so many values one after another and puts each into what it has.
use Rattle.std.proofs.Common.{◌≡◌, ℕ, zero, suc, ◌+◌, ◌-◌, ◌<◌, ◌≤◌, List, [], ◌∷◌, ◌++◌, fold, None, Ok, Err, refl}
use Rattle.std.proofs.Common.{sym, ap, ◌∙◌, arith, append_assoc}
use Rattle.std.proofs.lemmas.List.{append-nil}
use Rattle.std.specs.Int.{Width}
use Rattle.cm_image_format.specs.declared.fault.ImageFault.{ImageFault}
use Rattle.cm_image_format.specs.Reading.{◌>>=◌, Read, Check, number_at, made, many, counted}

-- what is left of such a loop, from a number, what it has, and the bytes that are left
unfoldable pub fill : {A B : Type 0} → (ℕ → A → ℕ) → (ℕ → List ℕ → Read A) → (B → A → B) → ℕ → ℕ → B → List ℕ → Read B
fill next one put zero s into bytes = Ok (into, bytes)
fill next one put (suc count) s into bytes = do
  x ← one s bytes
  fill next one put count (next s x.0) (put into x.0) x.1

-- ---- one turn, a fault, the end

pub fill_on : {A B : Type 0} (next : ℕ → A → ℕ) (one : ℕ → List ℕ → Read A) (put : B → A → B) (count i s : ℕ)
    (into : B) (rest after : List ℕ) (x : A)
    → i < count → one s rest ≡ Ok (x, after)
    → fill next one put (count - i) s into rest ≡ fill next one put (count - (i + 1)) (next s x) (put into x) after
unfolding fill
fill_on next one put count i s into rest after x h is =
    let more : count - i ≡ suc (count - (i + 1)) = omega arith in
    ap (λ k. fill next one put k s into rest) more
    ∙ ap (λ r. r >>= (λ y. fill next one put (count - (i + 1)) (next s y.0) (put into y.0) y.1)) is

pub fill_err : {A B : Type 0} (next : ℕ → A → ℕ) (one : ℕ → List ℕ → Read A) (put : B → A → B) (count i s : ℕ)
    (into : B) (rest : List ℕ) (fault : ImageFault)
    → i < count → one s rest ≡ Err fault → fill next one put (count - i) s into rest ≡ Err fault
unfolding fill
fill_err next one put count i s into rest fault h is =
    let more : count - i ≡ suc (count - (i + 1)) = omega arith in
    ap (λ k. fill next one put k s into rest) more
    ∙ ap (λ r. r >>= (λ y. fill next one put (count - (i + 1)) (next s y.0) (put into y.0) y.1)) is

pub fill_done : {A B : Type 0} (next : ℕ → A → ℕ) (one : ℕ → List ℕ → Read A) (put : B → A → B) (count i s : ℕ)
    (into : B) (rest : List ℕ)
    → count ≤ i → fill next one put (count - i) s into rest ≡ Ok (into, rest)
unfolding fill
fill_done next one put count i s into rest h =
    let none : count - i ≡ 0 = omega arith in
    ap (λ k. fill next one put k s into rest) none

-- ---- the whole loop is the fold of what is read

-- what is made of the values, one more in front of them, and a value beside its count
abbrev folded : {A B : Type 0} → (B → A → B) → B → List A × List ℕ → Read B
folded put into y = Ok (fold put into y.0, y.1)

abbrev in_front : {A : Type 0} → A → List A × List ℕ → Read (List A)
in_front x others = Ok (x ∷ others.0, others.1)

abbrev with_count : {A : Type 0} → ℕ → A × List ℕ → Read (ℕ × A)
with_count count b = Ok ((count, b.0), b.1)

abbrev without_count : {A : Type 0} → (ℕ × A) × List ℕ → Read A
without_count x = Ok (x.0.1, x.1)

after_many : {A B : Type 0} (put : B → A → B) (into : B) (x : A) (m : Read (List A))
    → (m >>= folded put (put into x)) ≡ ((m >>= in_front x) >>= folded put into)
after_many put into x (Ok y) = refl
after_many put into x (Err fault) = refl

after_one : {A B : Type 0} (next : ℕ → A → ℕ) (one : ℕ → List ℕ → Read A) (put : B → A → B) (count s : ℕ) (into : B)
    (r : Read A)
    → ((x : A) (bytes : List ℕ)
    → fill next one put count (next s x) (put into x) bytes
    ≡ (many next one count (next s x) bytes >>= folded put (put into x)))
    → (r >>= (λ x. fill next one put count (next s x.0) (put into x.0) x.1))
    ≡ ((r >>= (λ first. many next one count (next s first.0) first.1 >>= in_front first.0)) >>= folded put into)
after_one next one put count s into (Ok x) same = same x.0 x.1
    ∙ after_many put into x.0 (many next one count (next s x.0) x.1)
after_one next one put count s into (Err fault) same = refl

pub fill_is : {A B : Type 0} (next : ℕ → A → ℕ) (one : ℕ → List ℕ → Read A) (put : B → A → B) (count s : ℕ) (into : B)
    (bytes : List ℕ)
    → fill next one put count s into bytes ≡ made (λ xs. fold put into xs) (many next one count s) bytes
unfolding fill many
fill_is next one put zero s into bytes = refl
fill_is next one put (suc count) s into bytes =
    after_one next one put count s into (one s bytes)
    (λ x rest. fill_is next one put count (next s x) (put into x) rest)

no_fold : {A B : Type 0} (put : B → A → B) (into : B) (r : Read (List A)) (fault : ImageFault)
    → (r >>= folded put into) ≡ Err fault → r ≡ Err fault
no_fold put into (Ok x) fault is = absurd (cc)
no_fold put into (Err other) fault is = let same : other ≡ fault = cc in ap (λ z. Err z) same

-- a fault of the loop is that of the values
pub many_err : {A B : Type 0} (next : ℕ → A → ℕ) (one : ℕ → List ℕ → Read A) (put : B → A → B) (count s : ℕ)
    (into : B) (bytes : List ℕ) (fault : ImageFault)
    → fill next one put count s into bytes ≡ Err fault → many next one count s bytes ≡ Err fault
many_err next one put count s into bytes fault is =
    no_fold put into (many next one count s bytes) fault (sym (fill_is next one put count s into bytes) ∙ is)

-- ---- values that are pushed

abbrev pub push : {A : Type 0} → List A → A → List A
push into x = into ++ x ∷ []

fold-push : {A : Type 0} (into xs : List A) → fold push into xs ≡ into ++ xs
fold-push into [] = sym (append-nil into)
fold-push into (x ∷ xs) = fold-push (into ++ x ∷ []) xs ∙ append_assoc into (x ∷ []) xs

unfolded : {A : Type 0} (r : Read (List A)) → (r >>= folded push []) ≡ r
unfolded (Ok x) = ap (λ xs. Ok (xs, x.1)) (fold-push [] x.0)
unfolded (Err fault) = refl

pub pushed_is : {A : Type 0} (next : ℕ → A → ℕ) (one : ℕ → List ℕ → Read A) (count s : ℕ) (bytes : List ℕ)
    → fill next one push count s [] bytes ≡ many next one count s bytes
pushed_is next one count s bytes = fill_is next one push count s [] bytes ∙ unfolded (many next one count s bytes)

-- ---- values behind their count

uncounted : {A : Type 0} (count : ℕ) (r : Read A) → ((r >>= with_count count) >>= without_count) ≡ r
uncounted count (Ok x) = refl
uncounted count (Err fault) = refl

pub counted_is : {A : Type 0} (w : Width) (check : Check) (next : ℕ → A → ℕ) (one : ℕ → List ℕ → Read A) (s count : ℕ)
    (bytes rest : List ℕ)
    → number_at w bytes ≡ Ok (count, rest) → check count ≡ None
    → counted w check next one s bytes ≡ many next one count s rest
counted_is w check next one s count bytes rest is passes =
    rw (is, passes) (uncounted count (many next one count s rest))

-- ---- a loop over values behind their count: a fault, and the end

pub counted_err : {A B : Type 0} (w : Width) (check : Check) (next : ℕ → A → ℕ) (one : ℕ → List ℕ → Read A) (put : B
    → A → B) (count i s start : ℕ) (into first : B) (rest after bytes : List ℕ) (fault : ImageFault)
    → i < count → check count ≡ None → number_at w bytes ≡ Ok (count, after)
    → fill next one put (count - i) s into rest ≡ fill next one put count start first after → one s rest ≡ Err fault
    → counted w check next one start bytes ≡ Err fault
counted_err w check next one put count i s start into first rest after bytes fault h passes is same wrong =
    counted_is w check next one start count bytes after is passes
    ∙ many_err next one put count start first after
    fault (sym same ∙ fill_err next one put count i s into rest fault h wrong)

pub counted_all : {A B : Type 0} (w : Width) (check : Check) (next : ℕ → A → ℕ) (one : ℕ → List ℕ → Read A) (put : B
    → A → B) (count i s start : ℕ) (into first : B) (rest after bytes : List ℕ)
    → count ≤ i → check count ≡ None → number_at w bytes ≡ Ok (count, after)
    → fill next one put (count - i) s into rest ≡ fill next one put count start first after
    → made (λ xs. fold put first xs) (counted w check next one start) bytes ≡ Ok (into, rest)
counted_all {A} w check next one put count i s start into first rest after bytes h passes is same =
    ap (λ (r : Read (List A)). r >>= (λ x. Ok (fold put first x.0, x.1)))
    (counted_is w check next one start count bytes after is passes)
    ∙ (sym (fill_is next one put count start first after) ∙ (sym same ∙ fill_done next one put count i s into rest h))
