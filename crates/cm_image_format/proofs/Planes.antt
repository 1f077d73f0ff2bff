-- Planes and their bits, and the planes that are listed of many.
use Rattle.std.proofs.Common.{◌≡◌, ℕ, zero, suc, ◌+◌, ◌*◌, ◌/◌, ◌%◌, ◌^◌, ◌<◌, ◌≤◌, ◌==◌, Bool, true, false, not, List}
use Rattle.std.proofs.Common.{[], ◌∷◌, length, get_or, map, fold, refl, sym, ap, ◌∙◌, subst, ⊎_elim, arith, pow-suc}
use Rattle.std.proofs.Common.{mul_comm, ext_get_or}
use Rattle.std.proofs.Math.Nat.{div-div-eq-div-mul}
use Rattle.std.proofs.lemmas.Bool.{cond_both, cond-true, cond-false, cases_eq, eqb-true, eq-eqb, ne_eqb, not-true}
use Rattle.std.proofs.lemmas.Bool.{not-false, not_from_true, not_from_false}
use Rattle.std.proofs.lemmas.List.{length-map, get_or-map}
use Rattle.std.specs.List.{filter, range_with_len}
use Rattle.cm_bits.specs.Bit.{bit}
use Rattle.cm_model.specs.Processor.{value}
use Rattle.cm_model.specs.Each.{tabulate}
use Rattle.cm_model.specs.Chip.{plane_number}
use Rattle.cm_model.proofs.Each.{length-tabulate, get_or-each_below}
use Rattle.cm_model.proofs.Messages.{value-lt}
use Rattle.cm_image_format.specs.Image.{Listed}
use Rattle.cm_image_format.specs.Whole.{plane_or, plane_at}
use Rattle.cm_image_format.proofs.Forms.{AllFrom}
use Rattle.cm_image_format.proofs.Parts.{IsListed}

-- ---- the bits of a plane

halved : (b v p : ℕ) → b < 2 → (b + 2 * v) / 2 ^ suc p ≡ v / 2 ^ p
halved b v p small =
    let half : (b + 2 * v) / 2 ≡ v = omega arith in
    rw (pow-suc, mul_comm (2 ^ p) 2) (sym (div-div-eq-div-mul (b + 2 * v) 2 (2 ^ p)) ∙ ap (λ (k : ℕ). k / 2 ^ p) half)

lowest : (b v : ℕ) → b < 2 → (b + 2 * v) / 2 ^ 0 % 2 ≡ b
lowest b v small = omega arith

bit-value : (bits : List Bool) (p : ℕ) → p < length bits → bit (value bits) p ≡ get_or bits p false
bit-value [] p h = absurd (omega (arith, h))
bit-value (false ∷ bits) zero h = ap (λ (k : ℕ). k == 1) (lowest 0 (value bits) (omega arith))
bit-value (true ∷ bits) zero h = ap (λ (k : ℕ). k == 1) (lowest 1 (value bits) (omega arith))
bit-value (false ∷ bits) (suc p) h =
    ap (λ (k : ℕ). k % 2 == 1) (halved 0 (value bits) p (omega arith)) ∙ bit-value bits p (omega (arith, h))
bit-value (true ∷ bits) (suc p) h =
    ap (λ (k : ℕ). k % 2 == 1) (halved 1 (value bits) p (omega arith)) ∙ bit-value bits p (omega (arith, h))

-- bit p of the plane of a function is what it gives for p
pub bit-plane_number : (f : ℕ → Bool) (p : ℕ) → p < 16 → bit (plane_number f) p ≡ f p
unfolding plane_number
bit-plane_number f p h =
    bit-value (tabulate 0 16 f) p (omega (arith, length-tabulate 0 16 f)) ∙ get_or-each_below 16 f p false h

pub plane_number-lt : (f : ℕ → Bool) → plane_number f < 2 ^ 16
unfolding plane_number
plane_number-lt f =
    subst (λ (k : ℕ). value (tabulate 0 16 f) < 2 ^ k) (length-tabulate 0 16 f) (value-lt (tabulate 0 16 f))

-- bits that planes tell one after another
pub bits_of_planes : (bits : List Bool) (k p : ℕ) (g : ℕ → ℕ) → length bits ≡ k
    → ((i : ℕ) → i < k → bit (g i) p ≡ get_or bits i false) → map (λ plane. bit plane p) (tabulate 0 k g) ≡ bits
bits_of_planes bits k p g long same =
    let planes : length (map (λ plane. bit plane p) (tabulate 0 k g)) ≡ k =
    length-map (tabulate 0 k g) (λ plane. bit plane p) ∙ length-tabulate 0 k g in
    ext_get_or false (map (λ plane. bit plane p) (tabulate 0 k g)) bits (planes ∙ sym long)
    (λ i h. let below : i < k = omega (arith, planes) in
    get_or-map (λ plane. bit plane p) (tabulate 0 k g) i 0 false (omega (arith, length-tabulate 0 k g))
    ∙ (ap (λ (plane : ℕ). bit plane p) (get_or-each_below k g i 0 below) ∙ same i below))

-- ---- the planes that are not 0

abbrev pub entry : (ℕ → ℕ) → ℕ → Listed
entry f address = record { at = address; plane = f address }

abbrev pub is_some : Listed → Bool
is_some x = not (x.plane == 0)

-- those of so many addresses from the first on
abbrev listing : (ℕ → ℕ) → ℕ → ℕ → List Listed
listing f first count = filter is_some (map (entry f) (range_with_len first count))

another : (address z : ℕ) (x : Listed) → (x.at ≡ address → ⊥) → plane_or address z x ≡ z
another address z x other = cond-false (x.at == address) x.plane z (ne_eqb x.at address other)

the_same : (address z : ℕ) (x : Listed) → x.at ≡ address → plane_or address z x ≡ x.plane
the_same address z x is = cond-true (x.at == address) x.plane z (eq-eqb x.at address is)

passes_over : (f : ℕ → ℕ) (first count address z : ℕ) → address < first
    → fold (plane_or address) z (listing f first count) ≡ z
passes_over f first zero address z h = refl
passes_over f first (suc count) address z h =
    let rest : fold (plane_or address) z (listing f (first + 1) count) ≡ z =
    passes_over f (first + 1) count address z (omega arith) in
    cond_both (is_some (entry f first)) (entry f first ∷ listing f (first + 1) count) (listing f (first + 1) count)
    (λ (xs : List Listed). fold (plane_or address) z xs ≡ z)
    (λ e. ap (λ (y : ℕ). fold (plane_or address) y (listing f (first + 1) count))
    (another address z (entry f first) (λ s. omega (arith, s))) ∙ rest) (λ e. rest)

comes_to : (f : ℕ → ℕ) (first count address : ℕ) → first ≤ address → address < first + count
    → fold (plane_or address) 0 (listing f first count) ≡ f address
comes_to f first zero address h l = absurd (omega arith)
comes_to f first (suc count) address h l =
    let tail : List Listed = listing f (first + 1) count in
    ⊎_elim
    (λ (s : first ≡ address).
    cond_both (is_some (entry f first)) (entry f first ∷ tail) tail
    (λ (xs : List Listed). fold (plane_or address) 0 xs ≡ f address)
    (λ e. ap (λ (y : ℕ). fold (plane_or address) y tail) (the_same address 0 (entry f first) s ∙ ap f s)
    ∙ passes_over f (first + 1) count address (f address) (omega arith))
    (λ e. passes_over f (first + 1) count address 0 (omega arith)
    ∙ (sym (eqb-true (f first) 0 (not-false (f first == 0) e)) ∙ ap f s)))
    (λ (s : first ≡ address → ⊥).
    let rest : fold (plane_or address) 0 tail ≡ f address =
    comes_to f (first + 1) count address (omega (arith, s)) (omega arith) in
    cond_both (is_some (entry f first)) (entry f first ∷ tail) tail
    (λ (xs : List Listed). fold (plane_or address) 0 xs ≡ f address)
    (λ e. ap (λ (y : ℕ). fold (plane_or address) y tail) (another address 0 (entry f first) s) ∙ rest) (λ e. rest))
    (cases_eq first address)

-- of the planes that are listed each address has its own
pub plane_at-listing : (f : ℕ → ℕ) (count address : ℕ) → address < count
    → plane_at (filter is_some (tabulate 0 count (entry f))) address ≡ f address
unfolding plane_at tabulate
plane_at-listing f count address h = comes_to f 0 count address (omega arith) (omega arith)

-- what is listed is in order
AllListed : (f : ℕ → ℕ) (first count least : ℕ) → least ≤ first → first + count ≡ 4096 → ((a : ℕ) → f a < 2 ^ 16)
    → AllFrom (λ k x. x.at + 1) IsListed least (listing f first count)
AllListed f first zero least h until fits = tt
AllListed f first (suc count) least h until fits =
    cond_both (is_some (entry f first)) (entry f first ∷ listing f (first + 1) count) (listing f (first + 1) count)
    (λ (xs : List Listed). AllFrom (λ k x. x.at + 1) IsListed least xs)
    (λ e. (
      record { above = h; below = omega arith; fits = fits first; some = not-true (f first == 0) e },
      AllListed f (first + 1) count (first + 1) (omega arith) (omega arith) fits,
    ))
    (λ e. AllListed f (first + 1) count least (omega arith) (omega arith) fits)

pub AllListed-each : (f : ℕ → ℕ) (count : ℕ) → count ≡ 4096 → ((a : ℕ) → f a < 2 ^ 16)
    → AllFrom (λ k x. x.at + 1) IsListed 0 (filter is_some (tabulate 0 count (entry f)))
unfolding tabulate
AllListed-each f count is fits = AllListed f 0 count 0 (omega arith) (omega arith) fits

-- ---- of planes that are listed, those that are listed again

stays : (address least z : ℕ) (xs : List Listed) → address < least → AllFrom (λ k x. x.at + 1) IsListed least xs
    → fold (plane_or address) z xs ≡ z
stays address least z [] h good = refl
stays address least z (x ∷ xs) h good =
    let above : least ≤ x.at = good.0.above in
    ap (λ (y : ℕ). fold (plane_or address) y xs) (another address z x (λ s. omega (arith, s)))
    ∙ stays address (x.at + 1) z xs (omega arith) good.1

fits_all : (address least z : ℕ) (xs : List Listed) → z < 2 ^ 16 → AllFrom (λ k x. x.at + 1) IsListed least xs
    → fold (plane_or address) z xs < 2 ^ 16
fits_all address least z [] h good = h
fits_all address least z (x ∷ xs) h good =
    fits_all address (x.at + 1) (plane_or address z x) xs
    (cond_both (x.at == address) x.plane z (λ (y : ℕ). y < 2 ^ 16) (λ e. good.0.fits) (λ e. h)) good.1

pub plane_at-lt : (xs : List Listed) (address : ℕ) → AllFrom (λ k x. x.at + 1) IsListed 0 xs
    → plane_at xs address < 2 ^ 16
unfolding plane_at
plane_at-lt xs address good = fits_all address 0 0 xs (omega arith) good

raised : (first : ℕ) (x : Listed) (xs : List Listed) → first < x.at → IsListed first x
    → AllFrom (λ k x. x.at + 1) IsListed (x.at + 1) xs → AllFrom (λ k x. x.at + 1) IsListed (first + 1) (x ∷ xs)
raised first x xs above good rest =
    (record { above = omega arith; below = good.below; fits = good.fits; some = good.some }, rest)

left_out : (h : ℕ → ℕ) (first count : ℕ) (xs : List Listed) → h first ≡ 0 → listing h (first + 1) count ≡ xs
    → listing h first (suc count) ≡ xs
left_out h first count xs none rest =
    cond-false (is_some (entry h first)) (entry h first ∷ listing h (first + 1) count) (listing h (first + 1) count)
    (not_from_true (h first == 0) (eq-eqb (h first) 0 none)) ∙ rest

put_in : (h : ℕ → ℕ) (first count : ℕ) (x : Listed) (xs : List Listed) → x.at ≡ first → h first ≡ x.plane
    → (x.plane == 0) ≡ false → listing h (first + 1) count ≡ xs → listing h first (suc count) ≡ x ∷ xs
put_in h first count x xs here same some rest =
    let shown : is_some (entry h first) ≡ true = not_from_false (h first == 0) (ap (λ (y : ℕ). y == 0) same ∙ some) in
    cond-true (is_some (entry h first)) (entry h first ∷ listing h (first + 1) count)
    (listing h (first + 1) count) shown
    ∙ (λ i. record { at = sym here i; plane = same i } ∷ rest i)

relisted : (h : ℕ → ℕ) (first count : ℕ) (xs : List Listed) → first + count ≡ 4096
    → AllFrom (λ k x. x.at + 1) IsListed first xs
    → ((a : ℕ) → first ≤ a → a < first + count → h a ≡ fold (plane_or a) 0 xs) → listing h first count ≡ xs
relisted h first zero [] until good same = refl
relisted h first zero (x ∷ xs) until good same = absurd (omega (arith, good.0.above, good.0.below))
relisted h first (suc count) [] until good same =
    left_out h first count [] (same first (omega arith) (omega arith))
    (relisted h (first + 1) count [] (omega arith) tt (λ a l m. same a (omega arith) (omega arith)))
relisted h first (suc count) (x ∷ xs) until good same =
    let above : first ≤ x.at = good.0.above in
    ⊎_elim
    (λ (s : x.at ≡ first).
    let here : h first ≡ x.plane =
    same first (omega arith) (omega arith) ∙ (ap (λ (y : ℕ). fold (plane_or first) y xs) (the_same first 0 x s)
    ∙ stays first (x.at + 1) x.plane xs (omega arith) good.1) in
    put_in h first count x xs s here good.0.some
    (relisted h (first + 1) count xs (omega arith)
    (subst (λ (k : ℕ). AllFrom (λ k x. x.at + 1) IsListed (k + 1) xs) s good.1)
    (λ a l m. same a (omega arith) (omega arith)
    ∙ ap (λ (y : ℕ). fold (plane_or a) y xs) (another a 0 x (λ t. omega (arith, t))))))
    (λ (s : x.at ≡ first → ⊥).
    let later : AllFrom (λ k x. x.at + 1) IsListed (first + 1) (x ∷ xs) =
    raised first x xs (omega (arith, s)) good.0 good.1 in
    left_out h first count (x ∷ xs)
    (same first (omega arith) (omega arith) ∙ stays first (first + 1) 0 (x ∷ xs) (omega arith) later)
    (relisted h (first + 1) count (x ∷ xs) (omega arith) later (λ a l m. same a (omega arith) (omega arith))))
    (cases_eq x.at first)

pub relisted-each : (h : ℕ → ℕ) (count : ℕ) (xs : List Listed) → count ≡ 4096 → AllFrom (λ k x. x.at + 1) IsListed 0 xs
    → ((a : ℕ) → a < count → h a ≡ plane_at xs a)
    → filter is_some (tabulate 0 count (entry h)) ≡ xs
unfolding plane_at tabulate
relisted-each h count xs is good same = relisted h 0 count xs (omega arith) good (λ a l m. same a (omega arith))
