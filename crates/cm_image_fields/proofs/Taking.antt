-- The flag planes and the memory planes of a chip: a turn of the loop, a fault, and the end.
use Rattle.std.proofs.Common.{◌≡◌, ℕ, ◌+◌, ◌-◌, ◌*◌, ◌<◌, ◌≤◌, List, [], length, take, set, get_or, fold}
use Rattle.std.proofs.Common.{None, Ok, Err, refl, sym, ap, ◌∙◌, subst, ⊎_elim, arith, nat_le}
use Rattle.std.specs.Int.{w16}
use Rattle.std.proofs.lemmas.Bool.{le-leb, cases_eq}
use Rattle.std.proofs.lemmas.List.{take_more_set, take_all, get_or-set_same, get_or-set_other}
use Rattle.cm_model.specs.Machine.{Machine}
use Rattle.cm_array.specs.Pokes.{machine_with_plane}
use Rattle.cm_image_format.specs.declared.fault.ImageFault.{ImageFault}
use Rattle.cm_image_format.specs.declared.fault.ImageFault.TheVariants.{Count}
use Rattle.cm_image_format.specs.Reading.{◌>>=◌, Read, must, number_at, made}
use Rattle.cm_image_format.specs.Image.{Listed, flag_part, listed_part, flags_part, memory_part}
use Rattle.cm_image_fields.specs.Memory.{with_listed}
use Rattle.cm_image_fields.proofs.Filling.{fill, fill_on, fill_err, fill_done, many_err, push, pushed_is, counted_err}
use Rattle.cm_image_fields.proofs.Filling.{counted_all}

-- ---- flags

abbrev pub next_flag : ℕ → ℕ → ℕ
next_flag f plane = f + 1

-- the loop from here on gives what it gave at the start
pub record IsFilling (f : ℕ) (flags rest bytes : List ℕ) : Type 0 where
  pub long : length flags ≡ 16
  pub zero : 8 < f → get_or flags 8 0 ≡ 0
  pub same : fill next_flag flag_part push (16 - f) f (take f flags) rest ≡ fill next_flag flag_part push 16 0 [] bytes

pub flags_on : (f : ℕ) (flags rest after bytes : List ℕ) (plane : ℕ) → f < 16 → IsFilling f flags rest bytes
    → flag_part f rest ≡ Ok (plane, after)
    → fill next_flag flag_part push (16 - (f + 1)) (f + 1) (take (f + 1) (set flags f plane)) after
    ≡ fill next_flag flag_part push 16 0 [] bytes
flags_on f flags rest after bytes plane h filling is =
    ap (λ (into : List ℕ). fill next_flag flag_part push (16 - (f + 1)) (f + 1) into after)
    (take_more_set flags f plane (omega (arith, filling.long)))
    ∙ (sym (fill_on next_flag flag_part push 16 f f (take f flags) rest after plane h is) ∙ filling.same)

-- flag plane 8 is 0 once it was read
pub zero_on : (f : ℕ) (flags rest bytes : List ℕ) (plane : ℕ) → f < 16 → IsFilling f flags rest bytes
    → (f ≡ 8 → plane ≡ 0) → 8 < f + 1 → get_or (set flags f plane) 8 0 ≡ 0
zero_on f flags rest bytes plane h filling is l =
    ⊎_elim
    (λ (s : f ≡ 8). subst (λ (k : ℕ). get_or (set flags k plane) 8 0 ≡ 0) (sym s)
    (get_or-set_same flags 8 plane 0 (omega (arith, filling.long)) ∙ is s))
    (λ (s : f ≡ 8 → ⊥). get_or-set_other flags f 8 plane 0 (λ e. s (sym e)) ∙ filling.zero (omega (arith, s)))
    (cases_eq f 8)

pub flags_err : (f : ℕ) (flags rest bytes : List ℕ) (fault : ImageFault) → f < 16 → IsFilling f flags rest bytes
    → flag_part f rest ≡ Err fault → flags_part bytes ≡ Err fault
flags_err f flags rest bytes fault h filling is =
    many_err next_flag flag_part push 16 0 [] bytes fault (sym filling.same
    ∙ fill_err next_flag flag_part push 16 f f (take f flags) rest fault h is)

pub flags_all : (f : ℕ) (flags rest bytes : List ℕ) → 16 ≤ f → IsFilling f flags rest bytes
    → flags_part bytes ≡ Ok (flags, rest)
flags_all f flags rest bytes h filling =
    sym (pushed_is next_flag flag_part 16 0 bytes)
    ∙ (sym filling.same ∙ (fill_done next_flag flag_part push 16 f f (take f flags) rest h
    ∙ ap (λ (xs : List ℕ). Ok (xs, rest)) (take_all f flags (omega (arith, filling.long)))))

-- ---- memory

abbrev pub next_address : ℕ → Listed → ℕ
next_address least x = x.at + 1

-- the loop from here on, with this machine, gives what it gave at the start, and has four bytes less for each turn; the
-- buffers are what they were
pub record IsListing (c count i least : ℕ) (machine : Machine) (rest : List ℕ) (first : Machine)
    (bytes : List ℕ) : Type 0 where
  pub same : fill next_address listed_part (with_listed c) (count - i) least machine rest
      ≡ fill next_address listed_part (with_listed c) count 0 first bytes
  pub left : length rest + 4 * i ≡ length bytes
  pub buffers : machine.buffers ≡ first.buffers
  pub clock : machine.clock ≡ first.clock

few : (count : ℕ) → count ≤ 4096 → must Count (λ k. nat_le k 4096) count ≡ None
few count h = rw (le-leb count 4096 h) refl

pub memory_on : (c count i least at plane : ℕ) (machine after_one first : Machine) (rest after bytes : List ℕ)
    → i < count → IsListing c count i least machine rest first bytes
    → listed_part least rest ≡ Ok (record { at = at; plane = plane }, after)
    → length after + 4 ≡ length rest → after_one ≡ machine_with_plane machine c at plane
    → IsListing c count (i + 1) (at + 1) after_one after first bytes
memory_on c count i least at plane machine after_one first rest after bytes h listing is four put =
    subst (λ (m : Machine). IsListing c count (i + 1) (at + 1) m after first bytes) (sym put) (record {
      same = sym (fill_on next_address listed_part (with_listed c) count i least machine rest after
          (record { at = at; plane = plane }) h is) ∙ listing.same;
      left = omega (arith, four, listing.left);
      buffers = listing.buffers;
      clock = listing.clock;
    })

pub memory_err : (c count i least : ℕ) (machine first : Machine) (rest after bytes : List ℕ) (fault : ImageFault)
    → i < count → count ≤ 4096 → number_at w16 bytes ≡ Ok (count, after)
    → IsListing c count i least machine rest first after → listed_part least rest ≡ Err fault
    → memory_part bytes ≡ Err fault
memory_err c count i least machine first rest after bytes fault h most is listing wrong =
    counted_err w16 (must Count (λ k. nat_le k 4096)) next_address listed_part
    (with_listed c) count i least 0 machine first rest after bytes fault h (few count most) is listing.same wrong

pub memory_all : (c count i least : ℕ) (machine first : Machine) (rest after bytes : List ℕ) → count ≤ i
    → count ≤ 4096 → number_at w16 bytes ≡ Ok (count, after)
    → IsListing c count i least machine rest first after
    → made (λ listed. fold (with_listed c) first listed) memory_part bytes ≡ Ok (machine, rest)
memory_all c count i least machine first rest after bytes h most is listing =
    counted_all w16 (must Count (λ k. nat_le k 4096)) next_address listed_part
    (with_listed c) count i least 0 machine first rest after bytes h (few count most) is listing.same

-- ---- memory planes that are passed over

-- what is read is not kept
abbrev pub passed : ℕ → Listed → ℕ
passed into x = into

-- the loop from here on gives what it gave at the start, and has four bytes less for each turn
pub record IsPassing (count i least : ℕ) (rest bytes : List ℕ) : Type 0 where
  pub same : fill next_address listed_part passed (count - i) least 0 rest
      ≡ fill next_address listed_part passed count 0 0 bytes
  pub left : length rest + 4 * i ≡ length bytes

pub passing_on : (count i least : ℕ) (x : Listed) (rest after bytes : List ℕ) → i < count
    → IsPassing count i least rest bytes → listed_part least rest ≡ Ok (x, after) → length after + 4 ≡ length rest
    → IsPassing count (i + 1) (x.at + 1) after bytes
passing_on count i least x rest after bytes h passing is four = record {
  same = sym (fill_on next_address listed_part passed count i least 0 rest after x h is) ∙ passing.same;
  left = omega (arith, four, passing.left);
}

abbrev counted_out : List Listed × List ℕ → Read ℕ
counted_out x = Ok (fold passed 0 x.0, x.1)

same_ok : (x y : ℕ × List ℕ) → ◌≡◌ {A = Read ℕ} (Ok x) (Ok y) → x ≡ y
same_ok x y is = cc

values_of : (r : Read (List Listed)) (rest : List ℕ) → (r >>= counted_out) ≡ Ok (0, rest)
    → (listed : List Listed) × (r ≡ Ok (listed, rest))
values_of (Ok x) rest is =
    let same : (fold passed 0 x.0, x.1) ≡ (0, rest) = same_ok (fold passed 0 x.0, x.1) (0, rest) is in
    (x.0, ap (λ (k : List ℕ). Ok (x.0, k)) (ap (λ p. p.1) same))
values_of (Err fault) rest is = absurd (cc)

pub passing_all : (count i least : ℕ) (rest after bytes : List ℕ) → count ≤ i → count ≤ 4096
    → number_at w16 bytes ≡ Ok (count, after) → IsPassing count i least rest after
    → (listed : List Listed) × (memory_part bytes ≡ Ok (listed, rest))
passing_all count i least rest after bytes h most is passing =
    values_of (memory_part bytes) rest
    (counted_all w16 (must Count (λ k. nat_le k 4096)) next_address listed_part passed count i least 0 0 0 rest after
    bytes h (few count most) is passing.same)
