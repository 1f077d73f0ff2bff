-- What eight lanes tell of listed planes: whether an address is not the one that is due, and which plane is the least.
use Rattle.std.proofs.Common.{◌≡◌, ◌≢◌, ℕ, ◌+◌, ◌-◌, ◌*◌, ◌%◌, ◌^◌, ◌<◌, ◌≤◌, nat_lt, not, Bool, false, cond, List}
use Rattle.std.proofs.Common.{Ok, drop, length, get_or, map, replicate, ltb, eqb, refl, sym, ap, ◌∙◌, arith}
use Rattle.std.specs.Int.{w16}
use Rattle.std.proofs.lemmas.Bool.{cond_both, not-false, ltb-true, ltb-false, le-ltb, eqb-true, eqb-false, ne_eqb}
use Rattle.std.proofs.lemmas.Nat.{le_or_l, le_or_r}
use Rattle.std.proofs.lemmas.List.{take_all}
use Rattle.std.proofs.lemmas.Simd.{bitmask_splat, none_from_empty_mask, tops_compared, get_or-zip2, length-zip2}
use Rattle.std.proofs.lemmas.Simd.{get_or-sel_l, length-sel_l}
use Rattle.cm_image_format.specs.Reading.{number_at}
use Rattle.cm_image_format.specs.Image.{listed_part}
use lib.Bits.{bit_or}
use lib.Lanes.{zip2, sel_l, mask_l, top}

-- ---- addresses

-- lanes that stay 0 where the addresses that were read are those that are due
abbrev off_of : List ℕ → List ℕ → List ℕ → List ℕ
off_of off read due = zip2 bit_or off (zip2 (λ a b. (a + (65536 - b)) % 65536) read due)

length-differences : (read due : List ℕ) → length read ≡ 8 → length due ≡ 8
    → length (zip2 (λ a b. (a + (65536 - b)) % 65536) read due) ≡ 8
length-differences read due eight both =
    length-zip2 (λ a b. (a + (65536 - b)) % 65536) read due (eight ∙ sym both) ∙ eight

pub length-off_of : (off read due : List ℕ) → length off ≡ 8 → length read ≡ 8 → length due ≡ 8
    → length (off_of off read due) ≡ 8
length-off_of off read due long eight both =
    length-zip2 bit_or off (zip2 (λ a b. (a + (65536 - b)) % 65536) read due)
    (long ∙ sym (length-differences read due eight both)) ∙ long

off_lane : (off read due : List ℕ) (j : ℕ) → length off ≡ 8 → length read ≡ 8 → length due ≡ 8 → j < 8
    → get_or (off_of off read due) j 0
    ≡ bit_or (get_or off j 0) ((get_or read j 0 + (65536 - get_or due j 0)) % 65536)
off_lane off read due j long eight both h =
    get_or-zip2 bit_or off (zip2 (λ a b. (a + (65536 - b)) % 65536) read due) j 0 0 0 (omega (arith, long, h))
    (omega (arith, length-differences read due eight both, h))
    ∙ ap (bit_or (get_or off j 0))
    (get_or-zip2 (λ a b. (a + (65536 - b)) % 65536) read due j 0 0 0 (omega (arith, eight, h)) (omega (arith, both, h)))

-- a lane that is 0 was 0 before, and its address is the one that is due
pub off_before : (off read due : List ℕ) (j : ℕ) → length off ≡ 8 → length read ≡ 8 → length due ≡ 8 → j < 8
    → get_or (off_of off read due) j 0 ≡ 0 → get_or off j 0 ≡ 0
off_before off read due j long eight both h none =
    omega (
      arith,
      none,
      off_lane off read due j long eight both h,
      le_or_l (get_or off j 0) ((get_or read j 0 + (65536 - get_or due j 0)) % 65536),
    )

pub due_now : (off read due : List ℕ) (j : ℕ) → length off ≡ 8 → length read ≡ 8 → length due ≡ 8 → j < 8
    → get_or read j 0 < 65536 → get_or due j 0 < 65536 → get_or (off_of off read due) j 0 ≡ 0
    → get_or read j 0 ≡ get_or due j 0
due_now off read due j long eight both h word below none =
    omega (
      arith,
      none,
      word,
      below,
      off_lane off read due j long eight both h,
      le_or_r (get_or off j 0) ((get_or read j 0 + (65536 - get_or due j 0)) % 65536),
    )

-- ---- planes

-- the lesser of two planes, lane by lane
abbrev least_of : List ℕ → List ℕ → List ℕ
least_of least planes = sel_l (map (top 15) (zip2 (λ a b. cond (ltb a b) 65535 0) least planes)) least planes

least_chosen : (least planes : List ℕ) → least_of least planes ≡ sel_l (zip2 ltb least planes) least planes
least_chosen least planes = ap (λ (ms : List Bool). sel_l ms least planes) (tops_compared w16 ltb least planes)

pub length-least_of : (least planes : List ℕ) → length least ≡ 8 → length planes ≡ 8
    → length (least_of least planes) ≡ 8
length-least_of least planes long eight =
    let tests : length (zip2 ltb least planes) ≡ 8 = length-zip2 ltb least planes (long ∙ sym eight) ∙ long in
    ap length (least_chosen least planes)
    ∙ length-sel_l (zip2 ltb least planes) least planes (tests ∙ sym long) (tests ∙ sym eight) ∙ tests

least_lane : (least planes : List ℕ) (j : ℕ) → length least ≡ 8 → length planes ≡ 8 → j < 8
    → get_or (least_of least planes) j 0
    ≡ cond (ltb (get_or least j 0) (get_or planes j 0)) (get_or least j 0) (get_or planes j 0)
least_lane least planes j long eight h =
    let tests : length (zip2 ltb least planes) ≡ 8 = length-zip2 ltb least planes (long ∙ sym eight) ∙ long in
    ap (λ (xs : List ℕ). get_or xs j 0) (least_chosen least planes)
    ∙ get_or-sel_l (zip2 ltb least planes) least planes j 0 (omega (arith, tests, h)) (omega (arith, long, h))
    (omega (arith, eight, h))
    ∙ ap (λ (b : Bool). cond b (get_or least j 0) (get_or planes j 0))
    (get_or-zip2 ltb least planes j 0 0 false (omega (arith, long, h)) (omega (arith, eight, h)))

lesser : (a b : ℕ) → (cond (ltb a b) a b ≤ a) × (cond (ltb a b) a b ≤ b)
lesser a b = (
  cond_both (ltb a b) a b (λ x. x ≤ a) (λ e. omega arith) (λ e. ltb-false a b e),
  cond_both (ltb a b) a b (λ x. x ≤ b) (λ e. omega (arith, ltb-true a b e)) (λ e. omega arith),
)

pub least_before : (least planes : List ℕ) (j : ℕ) → length least ≡ 8 → length planes ≡ 8 → j < 8
    → get_or (least_of least planes) j 0 ≤ get_or least j 0
least_before least planes j long eight h =
    omega (arith, least_lane least planes j long eight h, (lesser (get_or least j 0) (get_or planes j 0)).0)

pub least_now : (least planes : List ℕ) (j : ℕ) → length least ≡ 8 → length planes ≡ 8 → j < 8
    → get_or (least_of least planes) j 0 ≤ get_or planes j 0
least_now least planes j long eight h =
    omega (arith, least_lane least planes j long eight h, (lesser (get_or least j 0) (get_or planes j 0)).1)

-- ---- all lanes at the end

-- of a test that no lane passes
no_lane : (t : ℕ → ℕ → Bool) (lanes : List ℕ) → length lanes ≡ 8
    → mask_l (map (top 15) (zip2 (λ a b. cond (t a b) 65535 0) lanes (replicate 8 0))) % 2 ^ 64 ≡ 0
    → (j : ℕ) → j < 8 → t (get_or lanes j 0) 0 ≡ false
no_lane t lanes long none j h =
    none_from_empty_mask (λ x. t x 0) lanes 0 8 0 (omega (arith, long))
    (ap (λ (l : List ℕ). mask_l (map (λ x. t x 0) l)) (take_all 8 lanes (omega (arith, long)))
    ∙ sym (bitmask_splat w16 t lanes 8 0 long (omega arith)) ∙ none)
    j (omega arith) (omega (arith, h))

pub none_off : (off : List ℕ) → length off ≡ 8
    → mask_l (map (top 15) (zip2 (λ a b. cond (not (eqb a b)) 65535 0) off (replicate 8 0))) % 2 ^ 64 ≡ 0
    → (j : ℕ) → j < 8 → get_or off j 0 ≡ 0
none_off off long none j h =
    eqb-true (get_or off j 0) 0 (not-false (eqb (get_or off j 0) 0) (no_lane (λ a b. not (eqb a b)) off long none j h))

pub none_zero : (least : List ℕ) → length least ≡ 8
    → mask_l (map (top 15) (zip2 (λ a b. cond (eqb a b) 65535 0) least (replicate 8 0))) % 2 ^ 64 ≡ 0
    → (j : ℕ) → j < 8 → get_or least j 0 ≢ 0
none_zero least long none j h = eqb-false (get_or least j 0) 0 (no_lane eqb least long none j h)

-- a plane that is listed, of the two numbers of its listing
pub listed_here : (bytes : List ℕ) (a plane : ℕ) → a < 4096 → plane ≢ 0
    → number_at w16 (drop (4 * a) bytes) ≡ Ok (a, drop (4 * a + 2) bytes)
    → number_at w16 (drop (4 * a + 2) bytes) ≡ Ok (plane, drop (4 * (a + 1)) bytes)
    → listed_part a (drop (4 * a) bytes) ≡ Ok (record { at = a; plane = plane }, drop (4 * (a + 1)) bytes)
listed_here bytes a plane below some first second =
    let within : nat_lt 4095 a ≡ false = le-ltb 4095 a (omega (arith, below)) in
    let rising : nat_lt a a ≡ false = le-ltb a a (omega arith) in
    rw (first, within, rising, second, ne_eqb plane 0 some) refl

-- the same number at the same places
pub number_moved : (bytes : List ℕ) (p q r s n m : ℕ) → p ≡ q → r ≡ s → n ≡ m
    → number_at w16 (drop q bytes) ≡ Ok (n, drop s bytes) → number_at w16 (drop p bytes) ≡ Ok (m, drop r bytes)
number_moved bytes p q r s n m from to is read =
    ap (λ (k : ℕ). number_at w16 (drop k bytes)) from ∙ read ∙ (λ i. Ok (is i, drop (sym to i) bytes))
