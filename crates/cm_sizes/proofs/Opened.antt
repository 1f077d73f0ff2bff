-- The machine of an image: its shape, then its room, then all of it.
use Rattle.std.proofs.Common.{◌≡◌, ◌≢◌, ℕ, Bool, true, false, List, Option, Some, None, Result, Ok, Err, length, nat_lt}
use Rattle.std.proofs.Common.{IfSome, IsErrOf, refl, sym, subst, ap, ◌∙◌, if◌then◌else◌}
use Rattle.std.specs.Int.{Width, w8, w32, w64, byte_len}
use Rattle.cm_model.specs.Machine.{Machine}
use Rattle.cm_image_format.specs.declared.fault.ImageFault.{ImageFault}
use Rattle.cm_image_format.specs.declared.fault.ImageFault.TheVariants as image
use Rattle.cm_image_format.specs.Reading.{Read, ◌>>=◌, must, unless, number_at, checked_number, followed, ◌⨾◌, made, fault_in}
use Rattle.cm_image_format.specs.Header.{is_dimension, is_room, shape_part, clock_part}
use Rattle.cm_image_format.specs.Whole.{read_shape, read_image, header_fault}
use Rattle.cm_sizes.specs.declared.opening.OpenFault.TheVariants.{Image, Room}
use Rattle.cm_sizes.specs.Sizes.{is_own_room}
use Rattle.cm_sizes.specs.Opening.{of_read, opened_of_shape, image_opened, IsUnopened}

-- the whole image, where its shape is one of the programs' own
opened_as : (bytes : List ℕ) (n cap : ℕ) → read_shape bytes ≡ Ok (n, cap) → is_own_room cap ≡ true
    → image_opened bytes ≡ of_read n cap (read_image n cap bytes)
unfolding image_opened
opened_as bytes n cap shape own = ap (opened_of_shape bytes) shape ∙ rw own refl

pub opened_ok : (bytes : List ℕ) (n cap : ℕ) (machine : Machine) → read_shape bytes ≡ Ok (n, cap)
    → is_own_room cap ≡ true → read_image n cap bytes ≡ Ok machine
    → image_opened bytes ≡ Ok (record { n = n; cap = cap; machine = machine })
opened_ok bytes n cap machine shape own is = opened_as bytes n cap shape own ∙ ap (of_read n cap) is

is_fault : (read : Result Machine ImageFault) (fault : ImageFault) → fault_in read ≡ Some fault → read ≡ Err fault
is_fault (Ok machine) fault h = absurd (let wrong : None ≡ Some fault = h in cc)
is_fault (Err own) fault h = let same : own ≡ fault = cc in ap (λ f. Err f) same

pub opened_err : (bytes : List ℕ) (n cap : ℕ) (fault : ImageFault) → read_shape bytes ≡ Ok (n, cap)
    → is_own_room cap ≡ true → fault_in (read_image n cap bytes) ≡ Some fault → image_opened bytes ≡ Err (Image fault)
opened_err bytes n cap fault shape own h =
    opened_as bytes n cap shape own ∙ ap (of_read n cap) (is_fault (read_image n cap bytes) fault h)

-- an image of no shape, or of a room that the programs have no machines of
shapeless : (bytes : List ℕ) (fault : ImageFault) → read_shape bytes ≡ Err fault → image_opened bytes ≡ Err (Image fault)
unfolding image_opened
shapeless bytes fault shape = ap (opened_of_shape bytes) shape

of_room : (bytes : List ℕ) (n cap : ℕ) → read_shape bytes ≡ Ok (n, cap) → is_own_room cap ≡ false
    → image_opened bytes ≡ Err Room
unfolding image_opened
of_room bytes n cap shape other = ap (opened_of_shape bytes) shape ∙ rw other refl

pub foreign : (bytes : List ℕ) (n cap : ℕ) → read_shape bytes ≡ Ok (n, cap) → is_own_room cap ≡ false
    → IsUnopened bytes Room
foreign bytes n cap shape other = record {
  own = λ _. of_room bytes n cap shape other;
  memory = λ same. absurd (let wrong : Room ≡ Image image.Memory = same in cc);
}

-- ---- no header has want of memory for its fault

abbrev NeverMemory : {A : Type 0} → Result A ImageFault → Type 0
NeverMemory read = fault_in read ≢ Some image.Memory

none_never : ◌≢◌ {A = Option ImageFault} None (Some image.Memory)
none_never h = absurd (cc)

fault_never : (fault : ImageFault) → fault ≢ image.Memory → ◌≢◌ {A = Option ImageFault} (Some fault) (Some image.Memory)
fault_never fault other h = other (let same : ◌≡◌ {A = Option ImageFault} (Some fault) (Some image.Memory) = h in cc)

both_never : {A B : Type 0} (r : Result A ImageFault) (f : A → Result B ImageFault) → NeverMemory r
    → ((x : A) → NeverMemory (f x)) → NeverMemory (r >>= f)
both_never (Ok x) f first second = second x
both_never (Err fault) f first second = first

long_enough : {A : Type 0} (short : Bool) (x : A) → NeverMemory (if short then Err image.Short else Ok x)
long_enough true x = fault_never image.Short (λ e. let wrong : image.Short ≡ image.Memory = e in cc)
long_enough false x = none_never

number_never : (w : Width) (bytes : List ℕ) → NeverMemory (number_at w bytes)
unfolding number_at
number_never w bytes = long_enough (nat_lt (length bytes) (byte_len w)) _

check_never : {A : Type 0} (fault : ImageFault) (b : Bool) (x : A) → fault ≢ image.Memory
    → NeverMemory (unless (if b then None else Some fault) x)
check_never fault true x other = none_never
check_never fault false x other = fault_never fault other

part_never : (w : Width) (fault : ImageFault) (test : ℕ → Bool) (bytes : List ℕ) → fault ≢ image.Memory
    → NeverMemory (checked_number w (must fault test) bytes)
part_never w fault test bytes other =
    both_never (number_at w bytes) (λ n. unless (must fault test n.0) (n.0, n.1)) (number_never w bytes)
    (λ n. check_never fault (test n.0) (n.0, n.1) other)

followed_never : {A B : Type 0} (first : List ℕ → Read A) (second : A → List ℕ → Read B)
    → ((bytes : List ℕ) → NeverMemory (first bytes)) → ((x : A) (bytes : List ℕ) → NeverMemory (second x bytes))
    → (bytes : List ℕ) → NeverMemory (followed first second bytes)
followed_never first second one two bytes =
    both_never (first bytes) (λ a. second a.0 a.1 >>= (λ b. Ok ((a.0, b.0), b.1))) (one bytes)
    (λ a. both_never (second a.0 a.1) (λ b. Ok ((a.0, b.0), b.1)) (two a.0 a.1) (λ b. none_never))

next_never : {A B : Type 0} (first : List ℕ → Read A) (second : List ℕ → Read B)
    → ((bytes : List ℕ) → NeverMemory (first bytes)) → ((bytes : List ℕ) → NeverMemory (second bytes))
    → (bytes : List ℕ) → NeverMemory ((first ⨾ second) bytes)
next_never first second one two = followed_never first (λ _. second) one (λ _. two)

made_never : {A B : Type 0} (f : A → B) (read : List ℕ → Read A) → ((bytes : List ℕ) → NeverMemory (read bytes))
    → (bytes : List ℕ) → NeverMemory (made f read bytes)
made_never f read one bytes =
    both_never (read bytes) (λ x. Ok (f x.0, x.1)) (one bytes) (λ x. none_never)

shape_never : (dimension room : ℕ → Bool) (bytes : List ℕ) → NeverMemory (shape_part dimension room bytes)
shape_never dimension room =
    let magic : image.Magic ≢ image.Memory = λ e. cc in
    let version : image.Version ≢ image.Memory = λ e. cc in
    let other : image.Shape ≢ image.Memory = λ e. cc in
    made_never _ _ (next_never _ _ (λ b. part_never w32 image.Magic _ b magic)
    (followed_never _ _ (λ b. part_never w8 image.Version _ b version)
    (λ k. next_never _ _ (λ b. part_never w8 image.Shape dimension b other)
    (next_never _ _ (λ b. part_never w8 image.Shape room b other) (λ b. part_never w8 image.Shape _ b other)))))

header_never : (n cap : ℕ) (bytes : List ℕ) → header_fault n cap bytes ≢ Some image.Memory
header_never n cap bytes =
    next_never (shape_part _ _) clock_part (shape_never _ _)
    (λ b. part_never w64 image.Value _ b (λ e. let wrong : image.Value ≡ image.Memory = e in cc)) bytes

no_fault : (A : Type 0) (o : Option ImageFault) → o ≢ Some image.Memory
    → IfSome o (λ fault. IsErrOf {T = A} (Err image.Memory) fault) → o ≡ None
no_fault A None never told = refl
no_fault A (Some fault) never told =
    let same : image.Memory ≡ fault = cc (told) in absurd (never (ap (λ f. Some f) (sym same)))

-- ---- an image that was refused: with its fault, or for want of memory

same_fault : {a b : ImageFault} → Image a ≡ Image b → a ≡ b
same_fault {a} {b} h = let same : Image a ≡ Image b = h in cc

-- the fault that `load` answers is one of `open_image`: the bytes' own, or want of memory where the header has none
pub unopened : (A : Type 0) (bytes : List ℕ) (n cap : ℕ) (fault : ImageFault) → read_shape bytes ≡ Ok (n, cap)
    → is_own_room cap ≡ true → IfSome (header_fault n cap bytes) (λ first. IsErrOf {T = A} (Err fault) first)
    → (fault ≢ image.Memory → fault_in (read_image n cap bytes) ≡ Some fault) → IsUnopened bytes (Image fault)
unopened A bytes n cap fault shape own first h = record {
  own = λ other. opened_err bytes n cap fault shape own (h (λ is. other (ap (λ f. Image f) is)));
  memory = λ same. record {
    n = n;
    cap = cap;
    shape = shape;
    own = own;
    header = no_fault A (header_fault n cap bytes) (header_never n cap bytes)
        (subst (λ (f : ImageFault). IfSome (header_fault n cap bytes) (λ one. IsErrOf {T = A} (Err f) one))
        (same_fault same) first);
  };
}

-- so where its shape is refused
shaped_never : (bytes : List ℕ) → read_shape bytes ≢ Err image.Memory
unfolding read_shape
shaped_never bytes h =
    both_never (shape_part is_dimension is_room bytes) (λ shape. Ok (shape.0.dimension, shape.0.room))
    (shape_never is_dimension is_room bytes) (λ shape. none_never) (ap fault_in h)

pub unshaped : (bytes : List ℕ) (fault : ImageFault) → read_shape bytes ≡ Err fault → IsUnopened bytes (Image fault)
unshaped bytes fault h = record {
  own = λ _. shapeless bytes fault h;
  memory = λ same. absurd (shaped_never bytes (h ∙ ap (λ f. Err f) (same_fault same)));
}
