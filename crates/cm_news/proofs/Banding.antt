-- What comes in at a band of whole rows of chips: which chips of it lead to one another, and where its edge is read.
use Rattle.std.proofs.Common.{◌≡◌, ◌≢◌, ℕ, zero, suc, ◌+◌, ◌-◌, ◌*◌, ◌/◌, ◌%◌, ◌^◌, ◌<◌, ◌≤◌, ◌&&◌, ◌||◌}
use Rattle.std.proofs.Common.{Bool, true, false, List, length}
use Rattle.std.proofs.Common.{Some, None, not, ne_eqb, if◌then◌else◌, get_or, bit_and, nat_le, nat_lt, refl, sym, ap}
use Rattle.std.proofs.Common.{◌∙◌, subst, ⊎_elim}
use Rattle.std.proofs.Common.{arith}
use Rattle.std.proofs.Math.Bool.{or-false}
use Rattle.std.proofs.lemmas.Bool.{cases_lt}
use Rattle.std.proofs.lemmas.Bool.Decides.{nat_tests}
use Rattle.std.proofs.lemmas.Nat.{mul-le, div_below, div-mul-add, mod-mul-add}
use Rattle.std.proofs.Math.Nat.{mod-lt, mul-div_cancel}
use Rattle.cm_bits.specs.Bit.{bit}
use Rattle.cm_bits.specs.declared.place.Place.{Place}
use Rattle.cm_bits.specs.declared.plane.Dir.{Dir}
use Rattle.cm_bits.specs.declared.plane.Dir.TheVariants.{North, East, West, South}
use Rattle.cm_model.specs.Chip.{IsPlane, plane_bit}
use Rattle.cm_model.specs.Laws.{IsPlace}
use Rattle.cm_model.specs.Place.{chip_columns, column_of, source, opposite}
use Rattle.cm_model.proofs.Each.{get_or-each_below}
use Rattle.cm_model.proofs.Torus.{back-first, back-other, on-last, on-other, columns_some}
use Rattle.cm_model.proofs.Torus.{chip_row-lt, chip_column-lt, chip-own}
use Rattle.cm_model.proofs.Torus.{neighbours_lead_back}
use Rattle.cm_news.specs.Bands.{AreWholeRows, is_open, edge_bits, bit_for, IsEntered, AreEntered}
use Rattle.cm_news.specs.Moves.{is_entry, one_back, sender_on_chip, at_edge, bit_along_edge, bit_of_place}
use Rattle.cm_news.specs.Rounds.{IsJoined, IsTurned, AreTurned}
use Rattle.cm_news.proofs.Joining.{bit_along_edge-lt}
use Rattle.cm_news.proofs.Rounding.{less_one, one_row_on, last_row_on, first_row_back, other_row_back, all_rows}
use Rattle.cm_news.proofs.Sources.{chip_rows, chip_before, over_edge, steps_are_the_torus}
use Rattle.cm_news.proofs.Stepping.{edge_north}

-- ---- numbers of a band

abbrev is_among : ℕ → ℕ → ℕ → Bool
is_among first count c = nat_le first c && nat_lt c (first + count)

among : (first count c : ℕ) → first ≤ c → c < first + count → is_among first count c ≡ true
among first count c from below = grind (arith, nat_tests)

not_below : (first count c : ℕ) → c < first → is_among first count c ≡ false
not_below first count c below = grind (arith, nat_tests)

not_above : (first count c : ℕ) → first + count ≤ c → is_among first count c ≡ false
not_above first count c above = grind (arith, nat_tests)

-- ---- what is read

-- of the place from which the bit comes
abbrev read_at : ℕ → List ℕ → List ℕ → ℕ → Place → Bool
read_at first planes edge column place =
    if is_among first (length planes) place.chip then bit (get_or planes (place.chip - first) 0) place.proc
    else get_or (edge_bits edge) column false

-- from within
within_is : (n : ℕ) (dir : Dir) (first c p j q : ℕ) (planes edge : List ℕ)
    → source n dir (record { chip = c; proc = p }) ≡ record { chip = first + j; proc = q } → j < length planes
    → bit_for n dir first planes edge (record { chip = c; proc = p }) ≡ bit (get_or planes j 0) q
within_is n dir first c p j q planes edge is below =
    ap (read_at first planes edge (column_of n (record { chip = c; proc = p }))) is
    ∙ rw (among first (length planes) (first + j) (omega arith) (omega arith))
    (ap (λ (k : ℕ). bit (get_or planes k 0) q) (let e : first + j - first ≡ j = omega arith in e))

-- from outside
outside_is : (n : ℕ) (dir : Dir) (first c p : ℕ) (planes edge : List ℕ) (place : Place)
    → source n dir (record { chip = c; proc = p }) ≡ place → is_among first (length planes) place.chip ≡ false
    → bit_for n dir first planes edge (record { chip = c; proc = p })
    ≡ get_or (edge_bits edge) (column_of n (record { chip = c; proc = p })) false
outside_is n dir first c p planes edge place is out =
    ap (read_at first planes edge (column_of n (record { chip = c; proc = p }))) is ∙ rw out refl

-- a bit of an edge
edge_bit : (edge : List ℕ) (k i : ℕ) → k < length edge → i < 4
    → get_or (edge_bits edge) (4 * k + i) false ≡ bit (get_or edge k 0) i
edge_bit edge k i there h =
    let chip : (4 * k + i) / 4 ≡ k = omega arith in
    let proc : (4 * k + i) % 4 ≡ i = omega arith in
    get_or-each_below (4 * length edge) (λ column. bit (get_or edge (column / 4) 0) (column % 4)) (4 * k + i) false
    (omega arith)
    ∙ (λ t. bit (get_or edge (chip t) 0) (proc t))

-- ---- the code's words

-- the low four bits of an edge come in
pub entered : (dir : Dir) (own edge plane : ℕ)
    → IsPlane plane (λ p. plane_bit own (sender_on_chip dir p)
    || (if is_entry dir p then bit (bit_and edge 15) (bit_along_edge dir p) else false))
    → IsEntered dir own edge plane
entered dir own edge plane is p h = is p h ∙ by (is_entry dir p) where
  by : (entry : Bool) → (plane_bit own (if entry then None else Some (one_back dir p))
      || (if entry then bit (bit_and edge 15) (bit_along_edge dir p) else false))
      ≡ (if entry then bit edge (bit_along_edge dir p) else bit own (one_back dir p))
  by true = edge_north edge (bit_along_edge dir p) (bit_along_edge-lt dir p h) ∙ ap (bit edge) (omega arith)
  by false = or-false (bit own (one_back dir p))

-- a chip that was joined with one of the band
joined_in_band : (n : ℕ) (dir : Dir) (first i j plane : ℕ) (planes edge : List ℕ) → first + i < 2 ^ n
    → i < length planes → j < length planes → chip_before n dir (first + i) ≡ first + j
    → IsJoined dir (get_or planes i 0) (get_or planes j 0) plane
    → IsPlane plane (λ p. bit_for n dir first planes edge (record { chip = first + i; proc = p }))
joined_in_band n dir first i j plane planes edge there here inside before is p h = is p h
    ∙ by (is_entry dir p) refl where
      by : (entry : Bool) → is_entry dir p ≡ entry
          → (if entry then bit (get_or planes j 0) (at_edge dir (bit_along_edge dir p))
          else bit (get_or planes i 0) (one_back dir p))
          ≡ bit_for n dir first planes edge (record { chip = first + i; proc = p })
      by true entry = sym (within_is n dir first (first + i) p j (at_edge dir (bit_along_edge dir p)) planes edge
          (over_edge n dir (first + i) p there h entry
          ∙ (λ t. record { chip = before t; proc = at_edge dir (bit_along_edge dir p) })) inside)
      by false entry = sym (within_is n dir first (first + i) p i (one_back dir p) planes edge
          ((steps_are_the_torus n dir (first + i) p there h).inside entry) here)

-- and one that took in what stands at its place of the edge
entered_in_band : (n : ℕ) (dir : Dir) (first i k plane : ℕ) (planes edge : List ℕ) → first + i < 2 ^ n
    → i < length planes → k < length edge → is_among first (length planes) (chip_before n dir (first + i)) ≡ false
    → ((p : ℕ) → column_of n (record { chip = first + i; proc = p }) ≡ 4 * k + bit_along_edge dir p)
    → IsEntered dir (get_or planes i 0) (get_or edge k 0) plane
    → IsPlane plane (λ p. bit_for n dir first planes edge (record { chip = first + i; proc = p }))
entered_in_band n dir first i k plane planes edge there here wide out column is p h = is p h
    ∙ by (is_entry dir p) refl where
      by : (entry : Bool) → is_entry dir p ≡ entry
          → (if entry then bit (get_or edge k 0) (bit_along_edge dir p) else bit (get_or planes i 0) (one_back dir p))
          ≡ bit_for n dir first planes edge (record { chip = first + i; proc = p })
      by true entry =
          sym (outside_is n dir first (first + i) p planes edge
          (record { chip = chip_before n dir (first + i); proc = at_edge dir (bit_along_edge dir p) })
          (over_edge n dir (first + i) p there h entry) out
          ∙ ap (λ (x : ℕ). get_or (edge_bits edge) x false) (column p)
          ∙ edge_bit edge k (bit_along_edge dir p) wide (bit_along_edge-lt dir p h))
      by false entry = sym (within_is n dir first (first + i) p i (one_back dir p) planes edge
          ((steps_are_the_torus n dir (first + i) p there h).inside entry) here)

-- ---- rows of chips

-- of two multiples the lower is lower by one more
multiples : (a b w : ℕ) → a * w < b * w → a * w + w ≤ b * w
multiples a b w less =
    let lt : a < b = ⊎_elim (λ (l : a < b). l)
    (λ (l : b ≤ a). let more : b * w ≤ a * w = mul-le b w a w l (omega arith) in absurd (omega arith)) (cases_lt a b) in
    let more : (a + 1) * w ≤ b * w = mul-le (a + 1) w b w (omega arith) (omega arith) in
    let is : (a + 1) * w ≡ a * w + w = omega arith in
    omega arith

-- so many rows with a chip in them are some
some_rows : (rows w : ℕ) → 0 < rows * w → 0 < rows
some_rows zero w some = absurd (omega arith)
some_rows (suc rows) w some = omega arith

-- a multiple that is some is one at least
one_at_least : (a w : ℕ) → 0 < a * w → w ≤ a * w
one_at_least a w some =
    let none : 0 * w ≡ 0 = omega arith in
    let least : 0 * w + w ≤ a * w = multiples 0 a w (omega (arith, none, some)) in
    omega (arith, none, least)

total : (n : ℕ) → 2 ^ n ≡ chip_rows n * chip_columns n
total n = all_rows n (2 ^ n) (chip_columns n) refl refl

-- the chip one row on, and one row back
module _ (n c : ℕ) (there : c < 2 ^ n) where
  on : c + chip_columns n < 2 ^ n → chip_before n North c ≡ c + chip_columns n
  on inside = one_row_on (chip_columns n) (chip_rows n) (c / chip_columns n) (c % chip_columns n) c (2 ^ n)
      (sym (chip-own n c)) (total n) (chip_row-lt n c there) (chip_column-lt n c) inside

  on_round : 2 ^ n ≤ c + chip_columns n → chip_before n North c ≡ c - (2 ^ n - chip_columns n)
  on_round past = last_row_on (chip_columns n) (chip_rows n) (c / chip_columns n) (c % chip_columns n) c (2 ^ n)
      (sym (chip-own n c)) (total n) (chip_row-lt n c there) (chip_column-lt n c) past

  back_round : c + (2 ^ n - chip_columns n) < 2 ^ n → chip_before n South c ≡ c + (2 ^ n - chip_columns n)
  back_round inside = first_row_back (chip_columns n) (chip_rows n) (c / chip_columns n) (c % chip_columns n) c (2 ^ n)
      (sym (chip-own n c)) (total n) (chip_row-lt n c there) (chip_column-lt n c) inside

  back : 2 ^ n ≤ c + (2 ^ n - chip_columns n) → chip_before n South c ≡ c - (2 ^ n - (2 ^ n - chip_columns n))
  back past = other_row_back (chip_columns n) (chip_rows n) (c / chip_columns n) (c % chip_columns n) c (2 ^ n)
      (sym (chip-own n c)) (total n) (chip_row-lt n c there) (chip_column-lt n c) past

-- a band that is not all chips: its far rows lead out of it
module _ (n first count i above rows : ℕ) (begin : first ≡ above * chip_columns n)
    (size : count ≡ rows * chip_columns n) (fit : first + count ≤ 2 ^ n) (part : count ≢ 2 ^ n) (here : i < count) where
  some_less : count + chip_columns n ≤ 2 ^ n
  some_less =
      let less : rows * chip_columns n < chip_rows n * chip_columns n = omega (arith, size, total n, fit, part) in
      let gap : rows * chip_columns n + chip_columns n ≤ chip_rows n * chip_columns n =
      multiples rows (chip_rows n) (chip_columns n) less in
      omega (arith, size, total n, gap)

  width : chip_columns n ≤ count
  width =
      let least : chip_columns n ≤ rows * chip_columns n =
      one_at_least rows (chip_columns n) (omega (arith, size, here)) in
      omega (arith, least, size)

  north_out : count ≤ i + chip_columns n → is_among first count (chip_before n North (first + i)) ≡ false
  north_out last = ⊎_elim
      (λ (l : first + i + chip_columns n < 2 ^ n). not_above first count (chip_before n North (first + i))
      (let is = on n (first + i) (omega arith) l in omega (arith, is, last)))
      (λ (l : 2 ^ n ≤ first + i + chip_columns n). not_below first count (chip_before n North (first + i))
      (let is = on_round n (first + i) (omega arith) l in
      let gap = some_less in
      let least : chip_columns n ≤ above * chip_columns n =
      one_at_least above (chip_columns n) (omega (arith, begin, l, gap, here)) in
      omega (arith, is, least, begin, l, fit, here, gap)))
      (cases_lt (first + i + chip_columns n) (2 ^ n))

  south_out : i < chip_columns n → is_among first count (chip_before n South (first + i)) ≡ false
  south_out top = ⊎_elim
      (λ (l : first + i + (2 ^ n - chip_columns n) < 2 ^ n). not_above first count (chip_before n South (first + i))
      (let is = back_round n (first + i) (omega arith) l in
      let gap = some_less in
      let none : first ≡ 0 = ⊎_elim (λ (e : first < 1). omega arith)
      (λ (e : 1 ≤ first).
      let least : chip_columns n ≤ above * chip_columns n =
      one_at_least above (chip_columns n) (omega (arith, begin, e)) in
      absurd (omega (arith, least, begin, l, gap)))
      (cases_lt first 1) in
      omega (arith, is, gap, none)))
      (λ (l : 2 ^ n ≤ first + i + (2 ^ n - chip_columns n)). not_below first count (chip_before n South (first + i))
      (let is = back n (first + i) (omega arith) l in
      let gap = some_less in
      omega (arith, is, l, top, gap)))
      (cases_lt (first + i + (2 ^ n - chip_columns n)) (2 ^ n))

  -- the column of chips of the last row's, and of the first row's
  last_column : count ≤ i + chip_columns n → (first + i) % chip_columns n ≡ i - (count - chip_columns n)
  last_column last =
      let wide = width in
      let all : above * chip_columns n + rows * chip_columns n ≡ (above + rows) * chip_columns n = omega arith in
      let some : 0 < rows = some_rows rows (chip_columns n) (omega (arith, size, here)) in
      let less : (above + rows - 1) * chip_columns n + chip_columns n ≡ (above + rows) * chip_columns n =
      less_one (above + rows) (chip_columns n) (omega (arith, some)) in
      ap (λ (c : ℕ). c % chip_columns n)
      (let e : first + i ≡ (above + rows - 1) * chip_columns n + (i - (count - chip_columns n)) =
      omega (arith, begin, size, all, less, wide, last) in e)
      ∙ mod-mul-add (above + rows - 1) (chip_columns n) (i - (count - chip_columns n)) (omega (arith, wide, last, here))

  first_column : i < chip_columns n → (first + i) % chip_columns n ≡ i
  first_column top =
      ap (λ (c : ℕ). c % chip_columns n) (let e : first + i ≡ above * chip_columns n + i = omega (arith, begin) in e)
      ∙ mod-mul-add above (chip_columns n) i top

-- ---- the rows that the loops leave

zero_on : (k : ℕ) → 0 + k ≡ k
zero_on k = omega arith

straight_from_zero : (dir : Dir) (planes : List ℕ) (count by k plane : ℕ) → IsTurned dir planes 0 count by k plane
    → k + by < count → IsJoined dir (get_or planes k 0) (get_or planes (k + by) 0) plane
straight_from_zero dir planes count by k plane is l =
    subst (λ (x : ℕ). IsJoined dir (get_or planes x 0) (get_or planes (k + by) 0) plane) (zero_on k)
    (subst (λ (y : ℕ). IsJoined dir (get_or planes (0 + k) 0) (get_or planes y 0) plane)
    (zero_on (k + by)) (is.straight l))

over_from_zero : (dir : Dir) (planes : List ℕ) (count by k j plane : ℕ) → IsTurned dir planes 0 count by k plane
    → count ≤ k + by → k - (count - by) ≡ j → IsJoined dir (get_or planes k 0) (get_or planes j 0) plane
over_from_zero dir planes count by k j plane is l there =
    subst (λ (x : ℕ). IsJoined dir (get_or planes x 0) (get_or planes j 0) plane) (zero_on k)
    (subst (λ (y : ℕ). IsJoined dir (get_or planes (0 + k) 0) (get_or planes y 0) plane)
    (zero_on (k - (count - by)) ∙ there) (is.over l))

abbrev ComesIn : ℕ → Dir → List ℕ → List ℕ → List ℕ → Type 0
ComesIn n dir planes edge new = (first i : ℕ) → AreWholeRows n first → first + length planes ≤ 2 ^ n → i < length planes
    → IsPlane (get_or new i 0) (λ p. bit_for n dir first planes edge (record { chip = first + i; proc = p }))

pub band_north : (n by : ℕ) (planes edge old mid new : List ℕ) → by ≡ chip_columns n → AreWholeRows n (length planes)
    → length planes ≢ 2 ^ n → length edge ≡ chip_columns n → AreTurned North planes 0 (length planes) by old mid
    → AreEntered North planes (length planes - by) edge mid new → ComesIn n North planes edge new
band_north n by planes edge old mid new by_is (rows, size) part wide turned entered first i (above, begin) fit here =
    let count : ℕ = length planes in
    let w : ℕ = chip_columns n in
    let least : w ≤ count = width n first count i above rows begin size fit part here in
    ⊎_elim
    (λ (l : i + w < count).
    subst (λ (plane : ℕ). IsPlane plane
    (λ p. bit_for n North first planes edge (record { chip = first + i; proc = p })))
    (sym (entered.below i (omega (arith, l, by_is)) ∙ ap (λ (x : ℕ). get_or mid x 0) (sym (zero_on i))))
    (joined_in_band n North first i (i + by) (get_or mid (0 + i) 0) planes edge (omega (arith, fit, here)) here
    (omega (arith, l, by_is))
    (on n (first + i) (omega (arith, fit, here)) (omega (arith, fit, l)) ∙ omega (arith, by_is))
    (straight_from_zero North planes count by i (get_or mid (0 + i) 0) (turned.each i here) (omega (arith, l, by_is)))))
    (λ (l : count ≤ i + w).
    let k : ℕ = i - (count - w) in
    let at : count - by + k ≡ i = omega (arith, l, by_is, least) in
    let inside : k < length edge = omega (arith, wide, l, here, least) in
    entered_in_band n North first i k (get_or new i 0) planes edge (omega (arith, fit, here)) here inside
    (north_out n first count i above rows begin size fit part here l)
    (λ p. ap (λ (c : ℕ). 4 * c + p % 4) (last_column n first count i above rows begin size fit part here l))
    (subst (λ (x : ℕ). IsEntered North (get_or planes x 0) (get_or edge k 0) (get_or new x 0))
    at (entered.each k inside)))
    (cases_lt (i + w) count)

pub band_south : (n by : ℕ) (planes edge old mid new : List ℕ) → by ≡ chip_columns n → AreWholeRows n (length planes)
    → length planes ≢ 2 ^ n → length edge ≡ chip_columns n
    → AreTurned South planes 0 (length planes) (length planes - by) old mid
    → AreEntered South planes 0 edge mid new → ComesIn n South planes edge new
band_south n by planes edge old mid new by_is (rows, size) part wide turned entered first i (above, begin) fit here =
    let count : ℕ = length planes in
    let w : ℕ = chip_columns n in
    let least : w ≤ count = width n first count i above rows begin size fit part here in
    let gap : count + w ≤ 2 ^ n = some_less n first count i above rows begin size fit part here in
    ⊎_elim
    (λ (l : i < w).
    let inside : i < length edge = omega (arith, wide, l) in
    entered_in_band n South first i i (get_or new i 0) planes edge (omega (arith, fit, here)) here inside
    (south_out n first count i above rows begin size fit part here l)
    (λ p. ap (λ (c : ℕ). 4 * c + p % 4) (first_column n first count i above rows begin size fit part here l))
    (subst (λ (x : ℕ). IsEntered South (get_or planes x 0) (get_or edge i 0) (get_or new x 0)) (zero_on i)
    (entered.each i inside)))
    (λ (l : w ≤ i).
    subst (λ (plane : ℕ). IsPlane plane
    (λ p. bit_for n South first planes edge (record { chip = first + i; proc = p })))
    (sym (entered.above i (omega (arith, l, wide)) ∙ ap (λ (x : ℕ). get_or mid x 0) (sym (zero_on i))))
    (joined_in_band n South first i (i - w) (get_or mid (0 + i) 0) planes edge (omega (arith, fit, here)) here
    (omega (arith, here))
    (back n (first + i) (omega (arith, fit, here)) (omega (arith, l, gap)) ∙ omega (arith, gap, l))
    (over_from_zero South planes count (count - by) i (i - w) (get_or mid (0 + i) 0) (turned.each i here)
    (omega (arith, l, by_is, least)) (omega (arith, l, by_is, least)))))
    (cases_lt i w)

-- ---- eastward and westward, in a row of chips

-- the row and the column of chips, of a chip told by those in its band
module _ (n first above q r : ℕ) (begin : first ≡ above * chip_columns n) (small : r < chip_columns n) where
  its_number : first + (q * chip_columns n + r) ≡ (above + q) * chip_columns n + r
  its_number = let e : (above + q) * chip_columns n ≡ above * chip_columns n + q * chip_columns n = omega arith in
      omega (arith, begin, e)

  its_row : (first + (q * chip_columns n + r)) / chip_columns n * chip_columns n ≡ first + q * chip_columns n
  its_row =
      ap (λ (c : ℕ). c / chip_columns n * chip_columns n) its_number
      ∙ ap (λ (c : ℕ). c * chip_columns n) (div-mul-add (above + q) (chip_columns n) r small)
      ∙ (let e : (above + q) * chip_columns n ≡ above * chip_columns n + q * chip_columns n = omega arith in
      omega (arith, begin, e))

  its_column : (first + (q * chip_columns n + r)) % chip_columns n ≡ r
  its_column = ap (λ (c : ℕ). c % chip_columns n) its_number ∙ mod-mul-add (above + q) (chip_columns n) r small

  west_of : chip_before n West (first + (q * chip_columns n + r))
      ≡ first + (q * chip_columns n + (r + 1) % chip_columns n)
  west_of = (λ t. its_row t + (its_column t + 1) % chip_columns n) ∙ omega arith

  east_of : chip_before n East (first + (q * chip_columns n + r))
      ≡ first + (q * chip_columns n + (r + chip_columns n - 1) % chip_columns n)
  east_of = (λ t. its_row t + (its_column t + chip_columns n - 1) % chip_columns n) ∙ omega arith

-- a chip of a row among so many
in_rows : (q rows r w count : ℕ) → count ≡ rows * w → q < rows → r < w → q * w + r < count
in_rows q rows r w count size below small =
    let more : (q + 1) * w ≤ rows * w = mul-le (q + 1) w rows w (omega arith) (omega arith) in
    let is : (q + 1) * w ≡ q * w + w = omega arith in
    omega (arith, more, is, size, small)

row_of_band : (i rows w count : ℕ) → count ≡ rows * w → 0 < w → i < count → i / w < rows
row_of_band i rows w count size some here = div_below i w rows some (omega (arith, size, here))

-- rows of which each is joined on a round
turned_in_band : (n : ℕ) (dir : Dir) (by : ℕ) (planes edge new : List ℕ) (on : ℕ → ℕ)
    → ((first above q r : ℕ) → first ≡ above * chip_columns n → r < chip_columns n
    → chip_before n dir (first + (q * chip_columns n + r)) ≡ first + (q * chip_columns n + on r))
    → ((r : ℕ) → r < chip_columns n → on r < chip_columns n)
    → ((r : ℕ) → r < chip_columns n → r + by < chip_columns n → r + by ≡ on r)
    → ((r : ℕ) → r < chip_columns n → chip_columns n ≤ r + by → r - (chip_columns n - by) ≡ on r)
    → (rows : ℕ) → length planes ≡ rows * chip_columns n
    → ((q r : ℕ) → q < rows → r < chip_columns n
    → IsTurned dir planes (q * chip_columns n) (chip_columns n) by r (get_or new (q * chip_columns n + r) 0))
    → ComesIn n dir planes edge new
turned_in_band n dir by planes edge new on before below straight over rows size turned first i (above, begin) fit here =
    let w : ℕ = chip_columns n in
    let q : ℕ = i / w in
    let r : ℕ = i % w in
    let small : r < w = chip_column-lt n i in
    let row : q < rows = row_of_band i rows w (length planes) size (columns_some n) here in
    let is : IsTurned dir planes (q * w) w by r (get_or new (q * w + r) 0) = turned q r row small in
    let there : q * w + r < length planes = in_rows q rows r w (length planes) size row small in
    let with_other : ℕ → Type 0 =
    λ x. IsJoined dir (get_or planes (q * w + r) 0) (get_or planes (q * w + x) 0) (get_or new (q * w + r) 0) in
    let joined : IsJoined dir (get_or planes (q * w + r) 0) (get_or planes (q * w + on r) 0)
    (get_or new (q * w + r) 0) =
    ⊎_elim
    (λ (l : r + by < w). subst with_other
    (straight r small l) (is.straight l))
    (λ (l : w ≤ r + by). subst with_other
    (over r small l) (is.over l))
    (cases_lt (r + by) w) in
    subst (λ (x : ℕ). IsPlane (get_or new x 0)
    (λ p. bit_for n dir first planes edge (record { chip = first + x; proc = p })))
    (chip-own n i)
    (joined_in_band n dir first (q * w + r) (q * w + on r) (get_or new (q * w + r) 0) planes edge
    (omega (arith, fit, there)) there (in_rows q rows (on r) w (length planes) size row (below r small))
    (before first above q r begin small) joined)

-- how many rows so many chips are
rows_counted : (count rows w : ℕ) → count ≡ rows * w → 0 < w → count / w ≡ rows
rows_counted count rows w size some = ap (λ (c : ℕ). c / w) size ∙ mul-div_cancel rows some

-- whole rows are as long as all their chips
pub rows_and_columns : (n count columns : ℕ) → columns ≡ chip_columns n → AreWholeRows n count
    → count / columns * columns ≡ count
rows_and_columns n count columns columns_is (rows, size) =
    ap (λ (w : ℕ). count / w * w) columns_is
    ∙ ap (λ (q : ℕ). q * chip_columns n) (rows_counted count rows (chip_columns n) size (columns_some n)) ∙ sym size

pub band_west : (n columns : ℕ) (planes edge new : List ℕ) → columns ≡ chip_columns n → AreWholeRows n (length planes)
    → ((q r : ℕ) → q < length planes / columns → r < columns
    → IsTurned West planes (q * columns) columns 1 r (get_or new (q * columns + r) 0))
    → ComesIn n West planes edge new
band_west n columns planes edge new columns_is (rows, size) turned =
    let w : ℕ = chip_columns n in
    let at : (q r : ℕ) → q < length planes / w → r < w → IsTurned West planes (q * w) w 1 r (get_or new (q * w + r) 0) =
    rw columns_is at turned in
    turned_in_band n West 1 planes edge new (λ r. (r + 1) % w) (west_of n)
    (λ r small. mod-lt (r + 1) (columns_some n))
    (λ r small l. sym (on-other r w l))
    (λ r small l. let last : r ≡ w - 1 = omega (arith, l, small) in
    (let e : r - (w - 1) ≡ 0 = omega (arith, last) in e)
    ∙ sym (ap (λ (k : ℕ). (k + 1) % w) last ∙ on-last w (columns_some n)))
    rows size (λ q r below. at q r (let e = rows_counted (length planes) rows w size (columns_some n) in
    omega (arith, e, below)))

pub band_east : (n columns : ℕ) (planes edge new : List ℕ) → columns ≡ chip_columns n → AreWholeRows n (length planes)
    → ((q r : ℕ) → q < length planes / columns → r < columns
    → IsTurned East planes (q * columns) columns (columns - 1) r (get_or new (q * columns + r) 0))
    → ComesIn n East planes edge new
band_east n columns planes edge new columns_is (rows, size) turned =
    let w : ℕ = chip_columns n in
    let some : 0 < w = columns_some n in
    let at : (q r : ℕ) → q < length planes / w → r < w
    → IsTurned East planes (q * w) w (w - 1) r (get_or new (q * w + r) 0) =
    rw columns_is at turned in
    turned_in_band n East (w - 1) planes edge new (λ r. (r + w - 1) % w) (east_of n)
    (λ r small. mod-lt (r + w - 1) some)
    (λ r small l. let first : r ≡ 0 = omega (arith, l, small, some) in
    (let e : r + (w - 1) ≡ w - 1 = omega (arith, first) in e)
    ∙ sym (ap (λ (k : ℕ). (k + w - 1) % w) first ∙ back-first w some))
    (λ r small l. let later : 0 < r = omega (arith, l, small, some) in
    (let e : r - (w - (w - 1)) ≡ r - 1 = omega (arith, some, later) in e) ∙ sym (back-other r w later small))
    rows size (λ q r below. at q r (let e = rows_counted (length planes) rows w size some in omega (arith, e, below)))

-- ---- all chips

pub band_of_all : (n : ℕ) (dir : Dir) (planes edge new : List ℕ) → length planes ≡ 2 ^ n
    → ((c : ℕ) → c < 2 ^ n
    → IsPlane (get_or new c 0) (λ p. bit_of_place planes (source n dir (record { chip = c; proc = p }))))
    → ComesIn n dir planes edge new
band_of_all n dir planes edge new all came first i begin fit here p h =
    let none : first ≡ 0 = omega (arith, fit, all) in
    let own : first + i ≡ i = omega (arith, none) in
    let place : Place = record { chip = i; proc = p } in
    let there : i < 2 ^ n = omega (arith, here, all) in
    let within : IsPlace n (source n dir place) =
    (neighbours_lead_back n (opposite dir) place (record { chip = there; proc = h })).within in
    let same : (source n dir place).chip ≡ first + (source n dir place).chip = omega (arith, none) in
    came i there p h
    ∙ sym (within_is n dir first (first + i) p (source n dir place).chip (source n dir place).proc planes edge
    (ap (λ (c : ℕ). source n dir (record { chip = c; proc = p })) own
    ∙ (λ t. record { chip = same t; proc = (source n dir place).proc }))
    (omega (arith, within.chip, all)))

-- ---- over which edge something comes in

pub open_north : (n count : ℕ) (dir : Dir) → dir ≡ North → count ≢ 2 ^ n → is_open n dir count ≡ true
open_north n count dir is part = ap (λ (d : Dir). is_open n d count) is ∙ ap not (ne_eqb count (2 ^ n) part)

pub open_south : (n count : ℕ) (dir : Dir) → dir ≡ South → count ≢ 2 ^ n → is_open n dir count ≡ true
open_south n count dir is part = ap (λ (d : Dir). is_open n d count) is ∙ ap not (ne_eqb count (2 ^ n) part)
